-- Each call keeps the rule of the baton.
use Rattle.std.proofs.Common.{◌≡◌, ◌≢◌, ℕ, zero, suc, ◌+◌, ◌≤◌, ◌⊎◌, max, Option, Bool, true, false, true≢false, Some, None, List, [], ◌∷◌, ◌++◌, map, length, set, drop, sym, refl, ap, ◌∙◌, subst, inl, inr, ⊎_elim, arith, length-set, length-append, append-nil}
use Rattle.std.proofs.lemmas.List.{length-map}
use Rattle.std.proofs.Math.Seq.{drop-append_seam}
use mathlib.Core.Option.{some, some-injective, some-ne-none}
use mathlib.Core.Logic.{dite}
use native.Mathlib.Decide.{ℕ_discrete}
use lib.ListN.{get_elem?}
use Rattle.atomic_table.proofs.Lists.{set_here, set_else, at_longer}
use Rattle.crossbeam_queue.specs.Fifo.{Pushes, Pops, Forks, Merges, Learns}
use Rattle.km_core.specs.Cores.{Seen}
use Rattle.km_numbered.specs.Members as members
use Rattle.km_numbered.specs.Members.{Member, Numbered, AllBy, has}
use Rattle.km_numbered.proofs.Places.{All, all_set, all_new, at_set, at_new, at_below}
use Rattle.km_numbered.proofs.Keeping as keeping
use Rattle.km_numbered.proofs.Parts.{part_append, part_all, part_none}
use Rattle.km_rounds.specs.declared.entry.Entry.{Entry}
use Rattle.km_rounds.specs.Journals.{entries_by}
use Rattle.km_live_map.specs.Ticks.{OnlyFirstTicks, TicksByFirst}
use Rattle.km_live_map.specs.Books.{Book}
use Rattle.km_live_map.specs.Views.{View, Knows, IsAway, blank, begun, joined, split_off, after_split, after_join, after_take, after_give}
use Rattle.km_live_map.specs.Rule.{IsIn, IsOut, Rides, Passed, Ruled}
use Rattle.km_live_map.proofs.Members.{at_map, map_set, map_same, map_append, each_append}

abbrev Has : List View → ℕ → View → Type 0
Has views i v = get_elem? views i ≡ some v

abbrev member_of : View → Member Entry
member_of v = v.member

abbrev Where : List Entry → Seen → ℕ → List Book → List View → Type 0
Where g opening entries items views = IsIn g opening entries items views ⊎ IsOut g items views

abbrev Of : Type 0
Of = Option (Seen × ℕ)

not_true : (b : Bool) → (b ≡ true → ⊥) → b ≡ false
not_true true h = absurd (h refl)
not_true false h = refl

one_pair : (a c : Seen) (b d : ℕ) → ◌≡◌ {A = Of} (Some (a, b)) (Some (c, d)) → (a ≡ c) × (b ≡ d)
one_pair a c b d e = let same : ◌≡◌ {A = Seen × ℕ} (a, b) (c, d) = cc in (ap (λ (p : Seen × ℕ). p.0) same, ap (λ (p : Seen × ℕ). p.1) same)

-- where the book is depends on which tokens hold it, and on what these took
moved : (g : List Entry) (opening : Seen) (entries : ℕ) (items : List Book) (old new : List View)
    → ((j : ℕ) (w : View) → Has new j w → w.holding ≡ true → (v : View) × Has old j v × (v.holding ≡ true) × (v.taken ≡ w.taken))
    → ((j : ℕ) (v : View) → Has old j v → v.holding ≡ true → (w : View) × Has new j w × (w.holding ≡ true))
    → Where g opening entries items old → Where g opening entries items new
moved g opening entries items old new back on = elim [
  | inl x ↦ inl (record {
    book = x.book;
    alone = x.alone;
    has_journal = x.has_journal;
    has_opening = x.has_opening;
    has_entries = x.has_entries;
    rest = λ j w at. not_true w.holding (λ holds. let v = back j w at holds in true≢false (sym v.2 ∙ x.rest j v.0 v.1));
  })
  | inr x ↦ let there = on x.place x.holder x.there x.holds in inr (record {
    empty = x.empty;
    place = x.place;
    holder = there.0;
    there = there.1;
    holds = there.2;
    only = λ j w at holds. let v = back j w at holds in let one = x.only j v.0 v.1 v.2 in (one.0, sym v.3 ∙ one.1);
  })
]

blank_is_first : (views : List View) (i : ℕ) (v : View) → views ≡ blank ∷ [] → Has views i v → (i ≡ 0) × (v ≡ blank)
blank_is_first views i v e at = go i (subst (λ (l : List View). Has l i v) e at)
  where
    go : (k : ℕ) → Has (blank ∷ []) k v → (k ≡ 0) × (v ≡ blank)
    go zero h = (refl, sym (some-injective blank v h))
    go (suc k) h = absurd (some-ne-none v (sym h))

one_rides : (x : Book) → All (λ (i : ℕ) (v : View). Rides [] x.opening x.entries v × (v.holding ≡ false)) (begun x ∷ [])
one_rides x zero v e =
    subst (λ (v : View). Rides [] x.opening x.entries v × (v.holding ≡ false)) (some-injective (begun x) v e)
    (record { rests = λ _. refl; most = λ _. omega arith; about = λ _. refl }, refl)
one_rides x (suc i) v e = absurd (some-ne-none v (sym e))

started : (x : Book) → x.journal ≡ [] → Passed (x ∷ []) (begun x ∷ [])
started x empty = record {
  journal = [];
  opening = x.opening;
  entries = x.entries;
  numbered = keeping.begins;
  each = λ i v at. (one_rides x i v at).0;
  ticks = tt;
  place = inl (record { book = x; alone = refl; has_journal = empty; has_opening = refl; has_entries = refl; rest = λ i v at. (one_rides x i v at).1 });
}

pub begins : Ruled [] (blank ∷ [])
begins = inl (refl, refl)

pub puts_in : (n id : ℕ) (v : View) (x : Book) → v ≡ blank → x.journal ≡ [] → Pushes Ruled n id v x (λ w. w ≡ begun x)
puts_in n id v x is empty items views _ h at = (
  begun x,
  elim h as (λ _. Ruled (items ++ x ∷ []) (set views id (begun x))) [
    | inl b ↦
        let first = (blank_is_first views id v b.1 at).0 in
        let items' : items ++ x ∷ [] ≡ x ∷ [] = ap (λ (l : List Book). l ++ x ∷ []) b.0 in
        let views' : set views id (begun x) ≡ begun x ∷ [] = ap (λ (l : List View). set l id (begun x)) b.1 ∙ ap (λ (i : ℕ). set (blank ∷ []) i (begun x)) first in
        inr (subst (λ (l : List Book). Passed l (set views id (begun x))) (sym items') (subst (λ (l : List View). Passed (x ∷ []) l) (sym views') (started x empty)))
    | inr y ↦ let told = (y.each id v at).about (ap (λ (z : View). z.member.spent) is) in let none : ◌≡◌ {A = Of} None (Some (y.opening, y.entries)) = sym (ap (λ (z : View). z.about) is) ∙ told in absurd cc
  ],
  refl,
)

pub finds_none : (id : ℕ) (v : View) → v ≡ blank → Learns Ruled id v (λ items. items ≡ [])
finds_none id v is items views h at = elim h [
  | inl b ↦ b.0
  | inr y ↦ let told = (y.each id v at).about (ap (λ (z : View). z.member.spent) is) in let none : ◌≡◌ {A = Of} None (Some (y.opening, y.entries)) = sym (ap (λ (z : View). z.about) is) ∙ told in absurd cc
]

-- a token that isn't blank knows that the book is there
passed : (items : List Book) (views : List View) (id : ℕ) (v : View) → v.about ≢ None → Ruled items views → Has views id v → Passed items views
passed items views id v told h at = elim h [ inl b ↦ absurd (told (ap (λ (z : View). z.about) (blank_is_first views id v b.1 at).1)) | inr y ↦ y ]

module _ (items : List Book) (views : List View) (id : ℕ) (v : View) (y : Passed items views) (at : Has views id v) (live : v.member.spent ≡ false) where
  at_member : get_elem? (map member_of views) id ≡ some v.member
  at_member = at_map member_of views id v at

  -- what a token knows of the book that is handed on
  knows_now : (b : Book) → b.journal ≡ y.journal → b.opening ≡ y.opening → b.entries ≡ y.entries → Knows v b
  knows_now b same same_opening same_entries =
      let r = y.each id v at in
      let parts : (k : ℕ) → entries_by b.journal k ≡ entries_by y.journal k = λ k. ap (λ (l : List Entry). entries_by l k) same in
      record {
        about = r.about live ∙ ap (λ (p : Seen × ℕ). Some p) (λ i. (sym same_opening i, sym same_entries i));
        own = parts v.member.number ∙ keeping.own_part (entries_by y.journal) (map member_of views) id v.member y.numbered at_member live;
        most = let m = r.most live in let e = ap length same in omega arith;
        ticks = subst OnlyFirstTicks (sym same) y.ticks;
        kept = λ zero_is k there. parts k ∙ keeping.kept_parts (entries_by y.journal) (map member_of views) id v.member y.numbered at_member live zero_is k there;
        all = λ zero_is alone k. parts k ∙ keeping.all_parts (entries_by y.journal) (map member_of views) id v.member y.numbered at_member live zero_is alone k;
      }

  number_is : v.member.number ≡ id
  number_is = keeping.number_is (entries_by y.journal) (map member_of views) id v.member y.numbered at_member live

pub takes : (id : ℕ) (v : View) → v.member.spent ≡ false → Pops Ruled id v (λ x w. (w ≡ after_take v x) × Knows v x)
takes id v live x items views h at = elim h as (λ _. (w : View) × Ruled items (set views id w) × ((w ≡ after_take v x) × Knows v x)) [
  | inl b ↦ let no = b.0 in absurd cc
  | inr y ↦ elim y.place as (λ _. (w : View) × Ruled items (set views id w) × ((w ≡ after_take v x) × Knows v x)) [
    | inr out ↦ let no = out.empty in absurd cc
    | inl b ↦
        let same : x ≡ b.book = let e = b.alone in cc in
        let rest : items ≡ [] = let e = b.alone in cc in
        let is : x.journal ≡ y.journal = ap (λ (z : Book). z.journal) same ∙ b.has_journal in
        let w : View = after_take v x in
        let below = at_below views id v at in
        let r = y.each id v at in
        let all : All (λ (i : ℕ) (u : View). Rides y.journal y.opening y.entries u) (set views id w) = all_set (λ (i : ℕ) (u : View). Rides y.journal y.opening y.entries u) views id w
        (record { rests = λ t. absurd (true≢false (sym t ∙ live)); most = λ _. let e = ap length is in omega arith; about = r.about })
        (λ j u ne e. y.each j u e) in
        let only : (j : ℕ) (u : View) → Has (set views id w) j u → u.holding ≡ true → (j ≡ id) × (u.taken ≡ y.journal) = λ j u e holds. ⊎_elim
        (λ (t : (j ≡ id) × (w ≡ u)). (t.0, ap (λ (z : View). z.taken) (sym t.1) ∙ is))
        (λ (t : (j ≢ id) × Has views j u). absurd (true≢false (sym holds ∙ b.rest j u t.1))) (at_set views id j w u e) in (
          w,
          inr (record {
            journal = y.journal;
            opening = y.opening;
            entries = y.entries;
            numbered = subst (Numbered (entries_by y.journal)) (sym (map_same member_of views id v w at refl)) y.numbered;
            each = all;
            ticks = y.ticks;
            place = inr (record { empty = rest; place = id; holder = w; there = set_here views id w below; holds = refl; only = only });
          }),
          (refl, knows_now (x ∷ items) views id v y at live x is (ap (λ (z : Book). z.opening) same ∙ b.has_opening) (ap (λ (z : Book). z.entries) same ∙ b.has_entries)),
        )
  ]
]

pub finds_away : (id : ℕ) (v : View) → v.member.spent ≡ false → v.about ≢ None → v.holding ≡ false → Learns Ruled id v (λ items. items ≡ [] → IsAway v)
finds_away id v live told idle items views h at empty =
    let y : Passed items views = passed items views id v told h at in
    elim y.place as (λ _. IsAway v) [
      | inl b ↦ let some : b.book ∷ [] ≡ [] = sym b.alone ∙ empty in absurd cc
      | inr out ↦
          let u = out.holder in
          let live' : u.member.spent ≡ false = not_true u.member.spent (λ t. true≢false (sym out.holds ∙ (y.each out.place u out.there).rests t)) in
          let mine = number_is items views id v y at live in
          let ne : out.place ≢ id = λ e. let same : u ≡ v = some-injective u v (sym out.there ∙ subst (λ (k : ℕ). Has views k v) (sym e) at) in true≢false (sym out.holds ∙ ap (λ (z : View). z.holding) same ∙ idle) in
          let below = at_below views out.place u out.there in
          let len = length-map views member_of in
          record {
            holder = out.place;
            other = λ e. ne (e ∙ mine);
            out = λ zero_is.
                let f = y.numbered.each id v.member (at_map member_of views id v at) in
                let knows = (f.lives live).knows (sym mine ∙ zero_is) in
                let g = y.numbered.each out.place u.member (at_map member_of views out.place u out.there) in
                (let n = knows.0 in omega arith, ap (has out.place) knows.1 ∙ g.kept ∙ live');
          }
    ]

pub finds_room : (id : ℕ) (v : View) → v.holding ≡ true → Learns Ruled id v (λ items. items ≡ [])
finds_room id v holds items views h at = elim h [
  | inl b ↦ b.0
  | inr y ↦ elim y.place [ inl b ↦ absurd (true≢false (sym holds ∙ b.rest id v at)) | inr out ↦ out.empty ]
]

pub gives : (n id : ℕ) (v : View) (x : Book) (new : List Entry) → v.member.spent ≡ false → v.holding ≡ true → v.about ≡ Some (x.opening, x.entries)
    → x.journal ≡ v.taken ++ new → AllBy (λ (e : Entry). e.by) v.member.number new → OnlyFirstTicks new → Pushes Ruled n id v x (λ w. w ≡ after_give v x)
gives n id v x new live holds about more by ticks items views _ h at = elim h as (λ _. (w : View) × Ruled (items ++ x ∷ []) (set views id w) × (w ≡ after_give v x)) [
  | inl b ↦ let is = (blank_is_first views id v b.1 at).1 in absurd (true≢false (sym holds ∙ ap (λ (z : View). z.holding) is))
  | inr y ↦ elim y.place as (λ _. (w : View) × Ruled (items ++ x ∷ []) (set views id w) × (w ≡ after_give v x)) [
    | inl b ↦ absurd (true≢false (sym holds ∙ b.rest id v at))
    | inr out ↦
        let r = y.each id v at in
        let holder = out.only id v at holds in
        let g : List Entry = y.journal ++ new in
        let journal : x.journal ≡ g = more ∙ ap (λ (l : List Entry). l ++ new) holder.1 in
        let w : View = after_give v x in
        let long : length g ≡ length y.journal + length new = length-append y.journal new in
        let len : length x.journal ≡ length g = ap length journal in
        let suffix : drop (length v.taken) x.journal ≡ new = ap (drop (length v.taken)) more ∙ drop-append_seam v.taken new in
        let by_of : Entry → ℕ = λ (e : Entry). e.by in
        let self : Entry → Entry = λ (e : Entry). e in
        let mine : entries_by g v.member.number ≡ entries_by y.journal v.member.number ++ drop (length v.taken) x.journal =
        part_append by_of self v.member.number y.journal new ∙ ap (λ (l : List Entry). entries_by y.journal v.member.number ++ l) (part_all by_of self v.member.number new by ∙ itself new ∙ sym suffix) in
        let others : (k : ℕ) → k ≢ v.member.number → entries_by g k ≡ entries_by y.journal k = λ k ne.
        part_append by_of self k y.journal new ∙ ap (λ (l : List Entry). entries_by y.journal k ++ l) (part_none by_of self k v.member.number new ne by) ∙ append-nil (entries_by y.journal k) in
        let numbered : Numbered (entries_by g) (set (map member_of views) id w.member) =
        keeping.grows (entries_by y.journal) (entries_by g) (map member_of views) id v.member (drop (length v.taken) x.journal) y.numbered (at_map member_of views id v at) live mine others in
        let pair : (x.opening ≡ y.opening) × (x.entries ≡ y.entries) = one_pair x.opening y.opening x.entries y.entries (sym about ∙ r.about live) in
        let all : All (λ (i : ℕ) (u : View). Rides g y.opening y.entries u) (set views id w) = all_set (λ (i : ℕ) (u : View). Rides g y.opening y.entries u) views id w
        (record { rests = λ _. refl; most = λ _. omega arith; about = r.about })
        (λ j u ne e. let q = y.each j u e in record { rests = q.rests; most = λ t. let m = q.most t in omega arith; about = q.about }) in
        let rest : (j : ℕ) (u : View) → Has (set views id w) j u → u.holding ≡ false = λ j u e. ⊎_elim
        (λ (t : (j ≡ id) × (w ≡ u)). ap (λ (z : View). z.holding) (sym t.1))
        (λ (t : (j ≢ id) × Has views j u). not_true u.holding (λ yes. t.0 ((out.only j u t.1 yes).0 ∙ sym holder.0))) (at_set views id j w u e) in (
          w,
          inr (record {
            journal = g;
            opening = y.opening;
            entries = y.entries;
            numbered = subst (Numbered (entries_by g)) (sym (map_set member_of views id w)) numbered;
            each = all;
            ticks = each_append TicksByFirst y.journal new y.ticks ticks;
            place = inl (record { book = x; alone = ap (λ (l : List Book). l ++ x ∷ []) out.empty; has_journal = journal; has_opening = pair.0; has_entries = pair.1; rest = rest });
          }),
          refl,
        )
  ]
]
  where
    itself : (l : List Entry) → map (λ (e : Entry). e) l ≡ l
    itself [] = refl
    itself (e ∷ es) = ap (λ (l : List Entry). e ∷ l) (itself es)

pub splits : (id : ℕ) (v : View) → v.member.spent ≡ false → v.member.number ≡ 0 → v.about ≢ None → Forks Ruled id v (after_split v) (split_off v)
splits id v live zero_is told items views h at =
    let y : Passed items views = passed items views id v told h at in
    let w : View = after_split v in
    let new : View = split_off v in
    let vs : List View = set views id w in
    let r = y.each id v at in
    let same : length vs ≡ length views = length-set views id w in
    let below = at_below views id v at in
    let F : ℕ → View → Type 0 = λ (i : ℕ) (u : View). Rides y.journal y.opening y.entries u in
    let old : All F vs = all_set F views id w
    (record { rests = r.rests; most = r.most; about = r.about })
    (λ j u ne e. y.each j u e) in
    let all : All F (vs ++ new ∷ []) = all_new F vs new old (record { rests = λ _. refl; most = λ _. omega arith; about = λ _. r.about live }) in
    let numbered : Numbered (entries_by y.journal) (set (map member_of views) id w.member ++ new.member ∷ []) =
    keeping.splits (entries_by y.journal) (map member_of views) id v.member y.numbered (at_map member_of views id v at) live zero_is in
    let map_is : map member_of (vs ++ new ∷ []) ≡ set (map member_of views) id w.member ++ new.member ∷ [] =
    map_append member_of vs (new ∷ []) ∙ ap (λ (l : List (Member Entry)). l ++ new.member ∷ []) (map_set member_of views id w) in
    let back : (j : ℕ) (u : View) → Has (vs ++ new ∷ []) j u → u.holding ≡ true → (p : View) × Has views j p × (p.holding ≡ true) × (p.taken ≡ u.taken) = λ j u e holds. ⊎_elim
    (λ was. ⊎_elim
    (λ (t : (j ≡ id) × (w ≡ u)). (v, subst (λ (k : ℕ). Has views k v) (sym t.0) at, ap (λ (z : View). z.holding) t.1 ∙ holds, ap (λ (z : View). z.taken) t.1))
    (λ (t : (j ≢ id) × Has views j u). (u, t.1, holds, refl)) (at_set views id j w u was))
    (λ (t : (j ≡ length vs) × (new ≡ u)). absurd (true≢false (sym holds ∙ ap (λ (z : View). z.holding) (sym t.1)))) (at_new vs new u j e) in
    let on : (j : ℕ) (u : View) → Has views j u → u.holding ≡ true → (p : View) × Has (vs ++ new ∷ []) j p × (p.holding ≡ true) = λ j u e holds. dite (ℕ_discrete j id)
    (λ is. let u_is : u ≡ v = some-injective u v (sym e ∙ subst (λ (k : ℕ). Has views k v) (sym is) at) in
    (w, at_longer vs (new ∷ []) j w (subst (λ (k : ℕ). Has vs k w) (sym is) (set_here views id w below)), ap (λ (z : View). z.holding) (sym u_is) ∙ holds))
    (λ ne. (u, at_longer vs (new ∷ []) j u (set_else views id j w ne ∙ e), holds)) in
    inr (record {
      journal = y.journal;
      opening = y.opening;
      entries = y.entries;
      numbered = subst (Numbered (entries_by y.journal)) (sym map_is) numbered;
      each = all;
      ticks = y.ticks;
      place = moved y.journal y.opening y.entries items views (vs ++ new ∷ []) back on y.place;
    })

pub joins : (id : ℕ) (v : View) (other : ℕ) (u : View) → v.member.spent ≡ false → v.member.number ≡ 0 → v.about ≢ None → u.member.spent ≡ false → u.holding ≡ false
    → Merges Ruled id v other u (after_join v u) joined
joins id v other u live zero_is told live' idle items views h at apart at' =
    let y : Passed items views = passed items views id v told h at in
    let w : View = after_join v u in
    let vs : List View = set views id w in
    let end : List View = set vs other joined in
    let was : Has views other u = ⊎_elim (λ (t : (other ≡ id) × (w ≡ u)). absurd (apart t.0)) (λ (t : (other ≢ id) × Has views other u). t.1) (at_set views id other w u at') in
    let r = y.each id v at in
    let q = y.each other u was in
    let most : max v.most u.most ≤ length y.journal = let a = r.most live in let b = q.most live' in grind arith in
    let F : ℕ → View → Type 0 = λ (i : ℕ) (p : View). Rides y.journal y.opening y.entries p in
    let first : All F vs = all_set F views id w
    (record { rests = r.rests; most = λ _. most; about = r.about })
    (λ j p ne e. y.each j p e) in
    let all : All F end = all_set F vs other joined
    (record { rests = λ _. refl; most = λ t. absurd (true≢false t); about = λ t. absurd (true≢false t) })
    (λ j p ne e. first j p e) in
    let numbered = keeping.joins (entries_by y.journal) (map member_of views) id v.member other u.member y.numbered (at_map member_of views id v at) live zero_is apart (at_map member_of views other u was) live' in
    let map_is : map member_of end ≡ set (set (map member_of views) id w.member) other joined.member =
    map_set member_of vs other joined ∙ ap (λ (l : List (Member Entry)). set l other joined.member) (map_set member_of views id w) in
    let below = at_below views id v at in
    let back : (j : ℕ) (p : View) → Has end j p → p.holding ≡ true → (x : View) × Has views j x × (x.holding ≡ true) × (x.taken ≡ p.taken) = λ j p e holds. ⊎_elim
    (λ (t : (j ≡ other) × (joined ≡ p)). absurd (true≢false (sym holds ∙ ap (λ (z : View). z.holding) (sym t.1))))
    (λ (t : (j ≢ other) × Has vs j p). ⊎_elim
    (λ (s : (j ≡ id) × (w ≡ p)). (v, subst (λ (k : ℕ). Has views k v) (sym s.0) at, ap (λ (z : View). z.holding) s.1 ∙ holds, ap (λ (z : View). z.taken) s.1))
    (λ (s : (j ≢ id) × Has views j p). (p, s.1, holds, refl)) (at_set views id j w p t.1)) (at_set vs other j joined p e) in
    let on : (j : ℕ) (p : View) → Has views j p → p.holding ≡ true → (x : View) × Has end j x × (x.holding ≡ true) = λ j p e holds. dite (ℕ_discrete j id)
    (λ is. let p_is : p ≡ v = some-injective p v (sym e ∙ subst (λ (k : ℕ). Has views k v) (sym is) at) in
    let ne : j ≢ other = λ k. apart (sym k ∙ is) in
    (w, set_else vs other j joined ne ∙ subst (λ (k : ℕ). Has vs k w) (sym is) (set_here views id w below), ap (λ (z : View). z.holding) (sym p_is) ∙ holds))
    (λ ne. dite (ℕ_discrete j other)
    (λ is. let p_is : p ≡ u = some-injective p u (sym e ∙ subst (λ (k : ℕ). Has views k u) (sym is) was) in absurd (true≢false (sym holds ∙ ap (λ (z : View). z.holding) p_is ∙ idle)))
    (λ ne'. (p, set_else vs other j joined ne' ∙ set_else views id j w ne ∙ e, holds))) in
    inr (record {
      journal = y.journal;
      opening = y.opening;
      entries = y.entries;
      numbered = subst (Numbered (entries_by y.journal)) (sym map_is) numbered;
      each = all;
      ticks = y.ticks;
      place = moved y.journal y.opening y.entries items views end back on y.place;
    })
