-- What one act on the book makes, by what the token knows.
use Rattle.std.proofs.Common.{◌≡◌, ℕ, ◌+◌, ◌≤◌, ◌<◌, ◌^◌, false, List, [], ◌∷◌, ◌++◌, length, drop, Option, Some, None, refl, sym, ◌∙◌, ap, subst, arith, append-nil, length-append}
use Rattle.atomic_table.specs.Seated.{TableId}
use Rattle.km_base.specs.declared.acts.Act.{Act}
use Rattle.km_base.specs.declared.acts.Act.TheVariants as act
use Rattle.km_base.specs.declared.acts.Answer.{Answer}
use Rattle.km_base.specs.declared.acts.Answer.TheVariants.{Done, Loaded}
use Rattle.km_core.specs.Cores.{Stands}
use Rattle.km_core.specs.Parts.{Touches}
use Rattle.km_model.specs.History.{History, value_of}
use Rattle.km_model.specs.Headline.{IsMemorySize}
use Rattle.km_model.specs.Past.{is_loaded}
use Rattle.km_model.specs.Answers.{answer}
use Rattle.km_model.specs.Follows.{Follows, past_of}
use Rattle.km_model.proofs.Cases.{elim_false}
use Rattle.km_state.specs.State.{State}
use Rattle.km_state.specs.StateAfter.{state_after}
use Rattle.km_words.specs.Told.{Told, WordStep, LoadStep, with_step}
use Rattle.km_rounds.specs.declared.entry.Entry.{Entry}
use Rattle.km_rounds.specs.Journals.{entries_by, entry, room_for, ticks_in, with_journal}
use Rattle.km_numbered.specs.Members.{AllBy}
use Rattle.km_laws.proofs.Answered.{blocks_lie, only_loads_load}
use Rattle.km_live_words.specs.Hands.{HandOn}
use Rattle.km_live_map.specs.Books.{Book, IsBook}
use Rattle.km_live_map.specs.Ticks.{OnlyFirstTicks}
use Rattle.km_live_map.specs.Views.{Knows, View, after_give, after_take}
use Rattle.km_workers.specs.Workers.{Acted, IsFit, May, Stepped, is_store, loads_of, with_steps}
use Rattle.km_live_workers.specs.AtBooks.{Answered, IsBegun, IsBegunAs, IsOpening, acting_at, limit_of, moment_of, words_of}
use Rattle.km_live_workers.proofs.Parts.{drop_first, part_length, ticks_first}

-- the token that took a book knows of it what it knew before
pub knows_taken : (v : View) (b : Book) → Knows v b → Knows (after_take v b) b
knows_taken v b k = record { about = k.about; own = k.own; most = omega arith; ticks = k.ticks; kept = k.kept; all = k.all }

-- the book began with an opening state
pub opened : (v : View) (b : Book) → Knows v b → IsBegun v → IsOpening b.opening b.entries
opened v b k begun = subst IsBegunAs k.about begun

-- time may pass
pub may_pass : (v : View) (b : Book) (n : ℕ) → Knows v b → IsBook b → (v.member.number ≡ 1) × (moment_of v.about + ticks_in v.member.own + n ≤ 2 ^ 62)
    → b.core.parts.settings.now + n ≤ 2 ^ 62
may_pass v b n k is room =
    let first : ticks_in b.journal ≡ ticks_in v.member.own =
    ticks_first b.journal k.ticks ∙ ap ticks_in (subst (λ m. entries_by b.journal m ≡ v.member.own) room.0 k.own) in
    let at : moment_of v.about ≡ b.opening.parts.settings.now = ap moment_of k.about in
    sum b.core.parts.settings.now b.opening.parts.settings.now (moment_of v.about) (ticks_in b.journal) (ticks_in v.member.own) is.now first at room.1
  where
    sum : (now first moment all own : ℕ) → now ≡ first + all → all ≡ own → moment ≡ first → moment + own + n ≤ 2 ^ 62 → now + n ≤ 2 ^ 62
    sum now first moment all own is same at low = omega (arith, is, same, at, low)

-- an answer that the definitions give is fit
fit : (words : ℕ) (h : History) (what : Act) (given : Answer) → IsMemorySize words → Follows words (record { act = what; answer = given } ∷ h) → IsFit words what given
fit words h what given size f = record {
  block = λ n a is at. blocks_lie words h n a (value_of given) size f.2 (ap (λ x. answer words (past_of h) x (value_of given)) (sym is) ∙ (sym f.0 ∙ at));
  plain = λ may. subst (λ x. is_loaded x ≡ false) (sym f.0) (only_loads_load words (past_of h) what (value_of given) may);
}

-- the answer of an act on the book is
pub book_fit : (v : View) (b c : Book) (what : Act) (given : Answer) → Knows v b → IsBegun v → IsBook b → c.core.parts.words ≡ b.core.parts.words
    → ((h : History) (s : State) → Stands b.core h s → Stands c.core (record { act = what; answer = given } ∷ h) (state_after s what given))
    → IsFit (words_of v.about) what given
book_fit v b c what given k begun is same step =
    let began = opened v b k begun in
    let core = (is.follows began.past began.stands).1 in
    let now = step (with_journal began.past b.journal) core.0 core.1 in
    let words : c.core.parts.words ≡ words_of v.about = same ∙ (is.words ∙ sym (ap words_of k.about)) in
    subst (λ n. IsFit n what given) words
    (fit c.core.parts.words (with_journal began.past b.journal) what given (subst IsMemorySize (sym (same ∙ is.words)) began.memory) now.follows)

-- the steps of an act are the load that it was answered, since it stores nothing
untouched : (t : Told) → Stepped t t []
untouched t = record { told = none t.steps; size = refl; place = refl }
  where
    none : (o : Option (List WordStep)) → o ≡ with_steps o []
    none None = refl
    none (Some steps) = ap Some (sym (append-nil steps))

one_more : (o : Option (List WordStep)) (s : WordStep) → with_step o s ≡ with_steps o (s ∷ [])
one_more None s = refl
one_more (Some steps) s = refl

pub touched : (what : Act) (given : Answer) (t u : Told) → is_store what ≡ false → Touches what given t u → Stepped t u (loads_of (Some given))
touched what (Loaded a value) t u none f = record {
  told = ap (λ (x : Told). x.steps) f.after ∙ one_more t.steps (LoadStep a value);
  size = ap (λ (x : Told). x.size) f.after;
  place = ap (λ (x : Told). x.place) f.after;
}
touched (act.Store a value) Done t u none f = absurd (elim_false (sym none))
touched what given t u none f = subst (λ x. Stepped t x []) (sym f) (untouched t)

pub none_touched : (t u : Told) → u ≡ t → Stepped t u (loads_of None)
none_touched t u f = subst (λ x. Stepped t x []) (sym f) (untouched t)

-- the book goes back with the token's own entry more, or as it came
pub goes_back : (baton : TableId) (v : View) (b c : Book) (what : Act) (s t : HandOn) (result : Option Answer) (size : ℕ) → May (acting_at baton v) size what → Answered (after_take v b) b c what s t result
    → (new : List Entry) × (c.journal ≡ b.journal ++ new) × AllBy (λ (e : Entry). e.by) v.member.number new × OnlyFirstTicks new
goes_back baton v b c what s t None size may a = ([], a.made.0 ∙ sym (append-nil b.journal), tt, tt)
goes_back baton v b c what s t (Some given) size may a = (entry v.member.number what given ∷ [], a.made.0, (refl, tt), ((λ n is. (may.ticks n is).0), tt))

limit_is : (v : View) (b : Book) → Knows v b → limit_of v.about ≡ b.entries
limit_is v b k = ap limit_of k.about

-- the own entries are no more than the journal's
own_short : (v : View) (b : Book) → Knows v b → length v.member.own ≤ length b.journal
own_short v b k = subst (λ (xs : List Entry). length xs ≤ length b.journal) k.own (part_length v.member.number b.journal)

-- after a take, an act and a give
pub acted : (baton : TableId) (v : View) (b c : Book) (what : Act) (s t : HandOn) (result : Option Answer) → Knows v b → Answered (after_take v b) b c what s t result
    → Acted (acting_at baton v) (acting_at baton (after_give (after_take v b) c)) what result
acted baton v b c what s t None k a =
    let left : drop (length b.journal) c.journal ≡ [] = ap (drop (length b.journal)) (a.made.0 ∙ sym (append-nil b.journal)) ∙ drop_first b.journal [] in
    let same : v.member.own ++ drop (length b.journal) c.journal ≡ v.member.own = ap (λ xs. v.member.own ++ xs) left ∙ append-nil v.member.own in
    let long : length c.journal ≡ length b.journal = ap length a.made.0 in
    let short = own_short v b k in let most = k.most in
    let limit = limit_is v b k in let entries = a.about.1 in let room = a.kept.room in
    record {
      same = refl;
      more = omega (arith, most, long);
      seen = subst (λ (xs : List Entry). length xs ≤ length c.journal) (sym same) (omega (arith, short, long));
      within = omega (arith, limit, entries, room);
      made = (same, full limit a.made.1 long);
    }
  where
    full : limit_of v.about ≡ b.entries → room_for b.entries what ≤ length b.journal → length c.journal ≡ length b.journal → room_for (limit_of v.about) what ≤ length c.journal
    full limit high long =
        let high' : room_for (limit_of v.about) what ≤ length b.journal = subst (λ n. room_for n what ≤ length b.journal) (sym limit) high in
        omega (arith, high', long)
acted baton v b c what s t (Some given) k a =
    let left : drop (length b.journal) c.journal ≡ entry v.member.number what given ∷ [] =
    ap (drop (length b.journal)) a.made.0 ∙ drop_first b.journal (entry v.member.number what given ∷ []) in
    let own : v.member.own ++ drop (length b.journal) c.journal ≡ v.member.own ++ entry v.member.number what given ∷ [] = ap (λ xs. v.member.own ++ xs) left in
    let long : length c.journal ≡ length b.journal + 1 = ap length a.made.0 ∙ length-append b.journal (entry v.member.number what given ∷ []) in
    let owns : length (v.member.own ++ entry v.member.number what given ∷ []) ≡ length v.member.own + 1 = length-append v.member.own (entry v.member.number what given ∷ []) in
    let short = own_short v b k in let most = k.most in
    let limit = limit_is v b k in let entries = a.about.1 in let room = a.kept.room in
    record {
      same = refl;
      more = omega (arith, most, long);
      seen = subst (λ (xs : List Entry). length xs ≤ length c.journal) (sym own) (omega (arith, short, long, owns));
      within = omega (arith, limit, entries, room);
      made = (own, free limit a.made.1, a.made.2);
    }
  where
    free : limit_of v.about ≡ b.entries → (room_for b.entries what ≤ length b.journal → ⊥) → v.most < room_for (limit_of v.about) what
    free limit none =
        let none' : room_for (limit_of v.about) what ≤ length b.journal → ⊥ = λ high. none (subst (λ n. room_for n what ≤ length b.journal) limit high) in
        let most = k.most in
        omega (arith, most, none')
