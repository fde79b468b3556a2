use Rattle.std.proofs.Common.{◌≡◌, ℕ, ◌+◌, ◌≤◌, ◌==◌, Bool, true, false, ◌&&◌, map, List, [], ◌∷◌, if◌then◌else◌, refl, sym, ◌∙◌, ap, subst, arith, ◌⊎◌, inl, inr, eqb-true, eq-eqb}
use Rattle.std.specs.List.{list_all}
use Rattle.std.proofs.lemmas.Bool.{and_parts, and_from}
use Rattle.km_model.specs.History.{Event, History}
use Rattle.km_model.specs.Blocks.{Block}
use Rattle.km_model.specs.Past.{Past, world, begins, scans, ends_scan, since_begin, since_scan, end_of}
use Rattle.km_model.specs.Verdict.{listing_ids}
use Rattle.km_model.specs.Follows.{past_of}
use Rattle.km_model.specs.Headline.{content, same_words, is_unchanged}
use Rattle.km_laws.proofs.Lists.{In, rising_in, rising_unique}
use Rattle.km_laws.proofs.Kept.{IsSameBlock, event_kept}
use Rattle.km_laws.proofs.Steps.{fits}

-- a moment of a past
abbrev pub IsMoment : Past → Past → Type 0
IsMoment p [] = p ≡ []
IsMoment p (m ∷ past) = (p ≡ m ∷ past) ⊎ IsMoment p past

pub begin_moments : (past p : Past) → In p (since_begin past) → IsMoment p past
begin_moments [] p i = absurd i
begin_moments (m ∷ past) p i = go (begin_moments past p) (begins m.act m.answer) i
  where
    go : (In p (since_begin past) → IsMoment p past) → (q : Bool) → In p (elim q as (λ _. List Past) [ true ↦ (m ∷ past) ∷ [] | false ↦ (m ∷ past) ∷ since_begin past ]) → (p ≡ m ∷ past) ⊎ IsMoment p past
    go rest true (inl same) = inl same
    go rest true (inr none) = absurd none
    go rest false (inl same) = inl same
    go rest false (inr j) = inr (rest j)

pub scan_moments : (j : ℕ) (past p : Past) → In p (since_scan j past) → IsMoment p past
scan_moments j [] p i = absurd i
scan_moments j (m ∷ past) p i = go (scan_moments j past p) (begins m.act m.answer && scans past + 1 == j) i
  where
    go : (In p (since_scan j past) → IsMoment p past) → (q : Bool) → In p (if q then (m ∷ past) ∷ [] else (m ∷ past) ∷ since_scan j past) → (p ≡ m ∷ past) ⊎ IsMoment p past
    go rest true (inl same) = inl same
    go rest true (inr none) = absurd none
    go rest false (inl same) = inl same
    go rest false (inr j) = inr (rest j)

pub end_moment : (k : ℕ) (past : Past) → IsMoment (end_of k past) past
end_moment k [] = refl
end_moment k (m ∷ past) = go (end_moment k past) (ends_scan k m.answer)
  where
    go : IsMoment (end_of k past) past → (q : Bool) → ((elim q as (λ _. Past) [ true ↦ m ∷ past | false ↦ end_of k past ]) ≡ m ∷ past) ⊎ IsMoment (elim q as (λ _. Past) [ true ↦ m ∷ past | false ↦ end_of k past ]) past
    go rest true = inl refl
    go rest false = inr rest

pub moment_moments : (past p q : Past) → IsMoment p q → IsMoment q past → IsMoment p past
moment_moments [] p q i e = subst (λ x. IsMoment p x) e i
moment_moments (m ∷ past) p q i (inl e) = subst (λ x. IsMoment p x) e i
moment_moments (m ∷ past) p q i (inr j) = inr (moment_moments past p q i j)

-- of two moments of a past one is a moment of the other
pub one_first : (past p q : Past) → IsMoment p past → IsMoment q past → IsMoment p q ⊎ IsMoment q p
one_first [] p q e f = inl (subst (λ x. IsMoment p x) (sym f) e)
one_first (m ∷ past) p q (inl e) j = inr (subst (λ x. IsMoment q x) (sym e) j)
one_first (m ∷ past) p q (inr i) (inl f) = inl (subst (λ x. IsMoment p x) (sym f) (inr i))
one_first (m ∷ past) p q (inr i) (inr j) = one_first past p q i j

-- a block of an earlier moment and one of a later one with the same id are one registration
pub record AreSame (g h : History) : Type 0 where
  pub more : (world (past_of g)).registered ≤ (world (past_of h)).registered
  pub blocks : (c b : Block) → In c (world (past_of h)).blocks → In b (world (past_of g)).blocks → c.id ≡ b.id → IsSameBlock b c

same_now : (h : History) → AreSame h h
same_now h = record {
  more = omega arith;
  blocks = λ c b i j e.
      let one : c ≡ b = rising_unique (λ (x : Block). x.id) (world (past_of h)).blocks 0 (world (past_of h)).registered c b (fits h).1.blocks_rise i j e in
      (ap (λ (x : Block). x.id) (sym one), ap (λ (x : Block). x.start) (sym one), ap (λ (x : Block). x.size) (sym one), ap (λ (x : Block). x.born) (sym one));
}

same_more : (g : History) (e : Event) (h : History) → AreSame g h → AreSame g (e ∷ h)
same_more g e h same =
    let kept = event_kept (world (past_of h)) (listing_ids (past_of h)) e.act e.answer in
    record {
      more = (let a = same.more in let b = kept.more in omega (arith, a, b));
      blocks = λ c b i j f. elim (kept.blocks c i) [
        | inl old ↦
            let k = same.blocks old.0 b old.1 j (old.2.0 ∙ f) in
            (k.0 ∙ old.2.0, k.1 ∙ old.2.1, k.2 ∙ old.2.2, k.3 ∙ old.2.3)
        | inr new ↦ absurd (
            let low = (rising_in (λ (x : Block). x.id) (world (past_of g)).blocks 0 (world (past_of g)).registered b (fits g).1.blocks_rise j).1 in
            let more = same.more in omega (arith, new, low, more, f))
      ];
    }

-- the history of a moment
pub record IsPart (Rel : History → Type 0) (p : Past) (h : History) : Type 0 where
  pub part : History
  pub moment_is : p ≡ past_of part
  pub holds : Rel part
  pub same : AreSame part h

pub part_of : (Rel : History → Type 0) → ((e : Event) (h : History) → Rel (e ∷ h) → Rel h) → (h : History) (p : Past) → Rel h → IsMoment p (past_of h) → IsPart Rel p h
part_of Rel earlier [] p r i = record { part = []; moment_is = i; holds = r; same = same_now [] }
part_of Rel earlier (e ∷ h) p r (inl here) = record { part = e ∷ h; moment_is = here; holds = r; same = same_now (e ∷ h) }
part_of Rel earlier (e ∷ h) p r (inr i) =
    let k = part_of Rel earlier h p (earlier e h r) i in
    record { part = k.part; moment_is = k.moment_is; holds = k.holds; same = same_more k.part e h k.same }

-- what all of a list pass, each does
pub all_pass : {X : Type 0} (test : X → Bool) (xs : List X) (x : X) → list_all test xs ≡ true → In x xs → test x ≡ true
all_pass test [] x h i = absurd i
all_pass test (y ∷ ys) x h (inl same) = subst (λ z. test z ≡ true) (sym same) (and_parts (test y) (list_all test ys) h).0
all_pass test (y ∷ ys) x h (inr i) = all_pass test ys x (and_parts (test y) (list_all test ys) h).1 i

same_itself : (xs : List ℕ) → same_words xs xs ≡ true
same_itself [] = refl
same_itself (x ∷ xs) = and_from (x == x) (same_words xs xs) (eq-eqb x x refl) (same_itself xs)

-- the content of a block at each moment since the begin of scan j is that at the end
pub content_same : (words j : ℕ) (b : Block) (past p : Past) → is_unchanged words b (since_scan j past) ≡ true → In p (since_scan j past) → same_words (content words b p) (content words b past) ≡ true
content_same words j b [] p h i = absurd i
content_same words j b (m ∷ past) p h i = go (begins m.act m.answer && scans past + 1 == j) h i
  where
    itself : p ≡ m ∷ past → same_words (content words b p) (content words b (m ∷ past)) ≡ true
    itself same = subst (λ x. same_words (content words b x) (content words b (m ∷ past)) ≡ true) (sym same) (same_itself (content words b (m ∷ past)))

    go : (q : Bool) → is_unchanged words b (if q then (m ∷ past) ∷ [] else (m ∷ past) ∷ since_scan j past) ≡ true → In p (if q then (m ∷ past) ∷ [] else (m ∷ past) ∷ since_scan j past)
        → same_words (content words b p) (content words b (m ∷ past)) ≡ true
    go true f (inl same) = itself same
    go true f (inr none) = absurd none
    go false f (inl same) = itself same
    go false f (inr k) = all_pass (λ x. same_words (content words b x) (content words b (m ∷ past))) (since_scan j past) p f k

pub same_at : (f g : ℕ → ℕ) (ws : List ℕ) (a : ℕ) → same_words (map f ws) (map g ws) ≡ true → In a ws → f a ≡ g a
same_at f g [] a h i = absurd i
same_at f g (w ∷ ws) a h (inl same) = subst (λ x. f x ≡ g x) (sym same) (eqb-true (f w) (g w) (and_parts (f w == g w) (same_words (map f ws) (map g ws)) h).0)
same_at f g (w ∷ ws) a h (inr i) = same_at f g ws a (and_parts (f w == g w) (same_words (map f ws) (map g ws)) h).1 i
