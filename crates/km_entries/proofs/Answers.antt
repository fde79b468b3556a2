-- The answers of a line are read back.
use Rattle.std.proofs.Common.{◌≡◌, ℕ, ◌^◌, ◌<◌, ◌==◌, true, List, [], ◌∷◌, decimal, find, Option, Some, None, option_and_then, bytes_eq, codes, refl, ap, sym, subst, ◌∙◌, arith, inl, inr, eqb-true}
use Rattle.km_base.specs.declared.acts.Refusal.{Refusal}
use Rattle.km_base.specs.declared.acts.Refusal.TheVariants.{BadAddress, BadSize, NoRoom, NoSlot, NotAllocated, NoObject, NotInside, AreaOverlap, TooManyAreas, NoTask, TaskExists, TooManyTasks, NoSection, SectionExists, TooManySections, Busy, NoScanRunning, Disabled, Invalid, NotBoot}
use Rattle.km_base.specs.Digits.{hex}
use Rattle.km_model.proofs.Cases.{none_some, some_same}
use Rattle.km_entries.specs.declared.lines.Said.{Said}
use Rattle.km_entries.specs.declared.lines.Said.TheVariants as said
use Rattle.km_entries.specs.Words.{plain_number, plain_address}
use Rattle.km_entries.specs.Lines.{CanBeSaid, refusal_number, refusal_numbers, said_words}
use Rattle.km_entries.specs.Reading.{after_equals, no_more, refusal_at, refusal_by, refusals, said_by, said_in, take_word}
use Rattle.km_entries.proofs.Numbers.{number_again, number_was}
use Rattle.km_entries.proofs.Addresses.{address_again, address_was}
use Rattle.km_entries.proofs.Readers.{chosen, same_bytes}
use Rattle.km_entries.proofs.Acts.{take_was}

refusal_again : (r : Refusal) → CanBeSaid (said.Refused r) → said_in (codes "refused" ∷ refusal_numbers r) ≡ Some (said.Refused r)
refusal_again BadAddress h = rw (number_again 1 (omega arith)) refl
refusal_again BadSize h = rw (number_again 2 (omega arith)) refl
refusal_again NoRoom h = rw (number_again 3 (omega arith)) refl
refusal_again NoSlot h = rw (number_again 4 (omega arith)) refl
refusal_again NotAllocated h = rw (number_again 5 (omega arith)) refl
refusal_again NoObject h = rw (number_again 6 (omega arith)) refl
refusal_again NotInside h = rw (number_again 7 (omega arith)) refl
refusal_again AreaOverlap h = rw (number_again 8 (omega arith)) refl
refusal_again TooManyAreas h = rw (number_again 9 (omega arith)) refl
refusal_again NoTask h = rw (number_again 10 (omega arith)) refl
refusal_again TaskExists h = rw (number_again 11 (omega arith)) refl
refusal_again TooManyTasks h = rw (number_again 12 (omega arith)) refl
refusal_again NoSection h = rw (number_again 13 (omega arith)) refl
refusal_again SectionExists h = rw (number_again 14 (omega arith)) refl
refusal_again TooManySections h = rw (number_again 15 (omega arith)) refl
refusal_again (Busy k) h = rw (number_again 16 (omega arith), number_again k h) refl
refusal_again NoScanRunning h = rw (number_again 17 (omega arith)) refl
refusal_again Disabled h = rw (number_again 18 (omega arith)) refl
refusal_again Invalid h = rw (number_again 19 (omega arith)) refl
refusal_again NotBoot h = rw (number_again 20 (omega arith)) refl

-- an answer is read from its words
pub said_again : (s : Said) → CanBeSaid s → said_in (said_words s) ≡ Some s
said_again said.Done h = refl
said_again (said.At a) h = rw (address_again a h) refl
said_again (said.Loaded a value) h = rw (address_again a h.0, address_again value h.1) refl
said_again (said.Ended scan new) h = rw (number_again scan h.0, number_again new h.1) refl
said_again (said.Stopped scan) h = rw (number_again scan h) refl
said_again said.Skipped h = refl
said_again said.Dumped h = refl
said_again (said.Refused r) h = refusal_again r h

-- nothing stands after
pub none_after : {A : Type 0} (a b : A) (ws : List (List ℕ)) → no_more a ws ≡ Some b → (ws ≡ []) × (a ≡ b)
none_after a b [] e = (refl, some_same a b e)
none_after a b (w ∷ ws) e = absurd (none_some b e)

-- what an answer's words were, by its first word
abbrev Was : List ℕ → List (List ℕ) → Said → Type 0
Was w ws s = (w ∷ ws ≡ said_words s) × CanBeSaid s

-- a refusal whose number stands alone
abbrev StandsAlone : Refusal → Type 0
StandsAlone r = (refusal_numbers r ≡ decimal (refusal_number r) ∷ []) × CanBeSaid (said.Refused r)

abbrev AllAlone : List Refusal → Type 0
AllAlone [] = Unit {0}
AllAlone (r ∷ rs) = StandsAlone r × AllAlone rs

all_alone : AllAlone refusals
all_alone =
    ((refl, tt), ((refl, tt), ((refl, tt), ((refl, tt), ((refl, tt), ((refl, tt), ((refl, tt), ((refl, tt), ((refl, tt), ((refl, tt), ((refl, tt), ((refl, tt), ((refl, tt), ((refl, tt), ((refl, tt), ((refl, tt), ((refl, tt), ((refl, tt), ((refl, tt), tt)))))))))))))))))))

found_alone : (rs : List Refusal) → AllAlone rs → (n : ℕ) (r : Refusal) → find (λ x. refusal_number x == n) rs ≡ Some r → (refusal_number r ≡ n) × StandsAlone r
found_alone [] all n r e = absurd (none_some r e)
found_alone (x ∷ xs) all n r e =
    elim (chosen (refusal_number x == n) (Some x) (find (λ y. refusal_number y == n) xs) r e) [
      | inl k ↦ let same = some_same x r k.1 in (ap refusal_number (sym same) ∙ eqb-true (refusal_number x) n k.0, subst StandsAlone same all.0)
      | inr k ↦ found_alone xs all.1 n r k.1
    ]

refused_was : (w : List ℕ) (ws : List (List ℕ)) (s : Said) → w ≡ codes "refused" → take_word plain_number ws refusal_by ≡ Some s → Was w ws s
refused_was w ws s key e =
    let k = take_was plain_number ws refusal_by s e in
    let told = number_was k.0 k.2 k.4 in
    elim (chosen (k.2 == 16) (take_word plain_number k.1 (λ n rest. no_more (said.Refused (Busy n)) rest)) (option_and_then (λ r. no_more (said.Refused r) k.1) (refusal_at k.2)) s k.5) [
      | inl busy ↦
          let j = take_was plain_number k.1 (λ n rest. no_more (said.Refused (Busy n)) rest) s busy.1 in
          let scan = number_was j.0 j.2 j.4 in
          let end = none_after (said.Refused (Busy j.2)) s j.1 j.5 in
          subst (λ (x : Said). Was w ws x) end.1
          (ap (λ x. x ∷ ws) key ∙ ap (λ x. codes "refused" ∷ x) (k.3 ∙ ap (λ x. x ∷ k.1) (told.0 ∙ ap decimal (eqb-true k.2 16 busy.0)) ∙ ap (λ x. decimal 16 ∷ x) (j.3 ∙ ap (λ x. x ∷ j.1) scan.0 ∙ ap (λ x. decimal j.2 ∷ x) end.0)), scan.1)
      | inr other ↦ alone k.2 k.0 k.1 k.3 told.0 (refusal_at k.2) refl other.1
    ]
  where
    alone : (n : ℕ) (v : List ℕ) (rest : List (List ℕ)) → ws ≡ v ∷ rest → v ≡ decimal n → (o : Option Refusal) → refusal_at n ≡ o → option_and_then (λ r. no_more (said.Refused r) rest) (refusal_at n) ≡ Some s → Was w ws s
    alone n v rest is d None t k = absurd (none_some s (sym (ap (option_and_then (λ r. no_more (said.Refused r) rest)) t) ∙ k))
    alone n v rest is d (Some r) t k =
        let end = none_after (said.Refused r) s rest (sym (ap (option_and_then (λ x. no_more (said.Refused x) rest)) t) ∙ k) in
        let f = found_alone refusals all_alone n r t in
        subst (λ (x : Said). Was w ws x) end.1
        (ap (λ x. x ∷ ws) key ∙ ap (λ x. codes "refused" ∷ x) (is ∙ ap (λ x. x ∷ rest) (d ∙ ap decimal (sym f.0)) ∙ ap (λ x. decimal (refusal_number r) ∷ x) end.0 ∙ sym f.1.0), f.1.1)

bare_was : (w : List ℕ) (ws : List (List ℕ)) (s : Said) (key : List ℕ) (made : Said) → bytes_eq key w ≡ true → said_words made ≡ key ∷ [] → CanBeSaid made → no_more made ws ≡ Some s → Was w ws s
bare_was w ws s key made b t h e =
    let end = none_after made s ws e in
    subst (λ (x : Said). Was w ws x) end.1 (ap (λ x. x ∷ ws) (sym (same_bytes key w b)) ∙ ap (λ x. key ∷ x) end.0 ∙ sym t, h)

one_was : (w : List ℕ) (ws : List (List ℕ)) (s : Said) (key : List ℕ) (read : List ℕ → Option ℕ) (text : ℕ → List ℕ) (make : ℕ → Said)
    → ((v : List ℕ) (n : ℕ) → read v ≡ Some n → (v ≡ text n) × (n < 2 ^ 64)) → ((n : ℕ) → said_words (make n) ≡ key ∷ text n ∷ []) → ((n : ℕ) → n < 2 ^ 64 → CanBeSaid (make n))
    → bytes_eq key w ≡ true → take_word read ws (λ n rest. no_more (make n) rest) ≡ Some s → Was w ws s
one_was w ws s key read text make tells t h b e =
    let k = take_was read ws (λ n rest. no_more (make n) rest) s e in
    let told = tells k.0 k.2 k.4 in
    let end = none_after (make k.2) s k.1 k.5 in
    subst (λ (x : Said). Was w ws x) end.1
    (ap (λ x. x ∷ ws) (sym (same_bytes key w b)) ∙ ap (λ x. key ∷ x) (k.3 ∙ ap (λ x. x ∷ k.1) told.0 ∙ ap (λ x. text k.2 ∷ x) end.0) ∙ sym (t k.2), h k.2 told.1)

two_was : (w : List ℕ) (ws : List (List ℕ)) (s : Said) (key : List ℕ) (read : List ℕ → Option ℕ) (text : ℕ → List ℕ) (make : ℕ → ℕ → Said)
    → ((v : List ℕ) (n : ℕ) → read v ≡ Some n → (v ≡ text n) × (n < 2 ^ 64)) → ((m n : ℕ) → said_words (make m n) ≡ key ∷ text m ∷ text n ∷ []) → ((m n : ℕ) → m < 2 ^ 64 → n < 2 ^ 64 → CanBeSaid (make m n))
    → bytes_eq key w ≡ true → take_word read ws (λ m rest. take_word read rest (λ n more. no_more (make m n) more)) ≡ Some s → Was w ws s
two_was w ws s key read text make tells t h b e =
    let k = take_was read ws (λ m rest. take_word read rest (λ n more. no_more (make m n) more)) s e in
    let told = tells k.0 k.2 k.4 in
    let j = take_was read k.1 (λ n more. no_more (make k.2 n) more) s k.5 in
    let told' = tells j.0 j.2 j.4 in
    let end = none_after (make k.2 j.2) s j.1 j.5 in
    subst (λ (x : Said). Was w ws x) end.1 (
      ap (λ x. x ∷ ws) (sym (same_bytes key w b))
          ∙ ap (λ x. key ∷ x) (k.3 ∙ ap (λ x. x ∷ k.1) told.0 ∙ ap (λ x. text k.2 ∷ x) (j.3 ∙ ap (λ x. x ∷ j.1) told'.0 ∙ ap (λ x. text j.2 ∷ x) end.0)) ∙ sym (t k.2 j.2),
      h k.2 j.2 told.1 told'.1,
    )

by_word : (w : List ℕ) (ws : List (List ℕ)) (s : Said) → said_by w ws ≡ Some s → Was w ws s
by_word w ws s e =
    elim (chosen (bytes_eq (codes "done") w) (no_more said.Done ws) _ s e) [
      | inl k ↦ bare_was w ws s (codes "done") said.Done k.0 refl tt k.1
      | inr k0 ↦ elim (chosen (bytes_eq (codes "at") w) (take_word plain_address ws (λ a rest. no_more (said.At a) rest)) _ s k0.1) [
        | inl k ↦ one_was w ws s (codes "at") plain_address hex said.At address_was (λ n. refl) (λ n h. h) k.0 k.1
        | inr k1 ↦ elim (chosen (bytes_eq (codes "loaded") w) (take_word plain_address ws (λ a rest. take_word plain_address rest (λ value more. no_more (said.Loaded a value) more))) _ s k1.1) [
          | inl k ↦ two_was w ws s (codes "loaded") plain_address hex said.Loaded address_was (λ m n. refl) (λ m n g h. (g, h)) k.0 k.1
          | inr k2 ↦ elim (chosen (bytes_eq (codes "ended") w) (take_word plain_number ws (λ scan rest. take_word plain_number rest (λ new more. no_more (said.Ended scan new) more))) _ s k2.1) [
            | inl k ↦ two_was w ws s (codes "ended") plain_number decimal said.Ended number_was (λ m n. refl) (λ m n g h. (g, h)) k.0 k.1
            | inr k3 ↦ elim (chosen (bytes_eq (codes "stopped") w) (take_word plain_number ws (λ scan rest. no_more (said.Stopped scan) rest)) _ s k3.1) [
              | inl k ↦ one_was w ws s (codes "stopped") plain_number decimal said.Stopped number_was (λ n. refl) (λ n h. h) k.0 k.1
              | inr k4 ↦ elim (chosen (bytes_eq (codes "skipped") w) (no_more said.Skipped ws) _ s k4.1) [
                | inl k ↦ bare_was w ws s (codes "skipped") said.Skipped k.0 refl tt k.1
                | inr k5 ↦ elim (chosen (bytes_eq (codes "dumped") w) (no_more said.Dumped ws) _ s k5.1) [
                  | inl k ↦ bare_was w ws s (codes "dumped") said.Dumped k.0 refl tt k.1
                  | inr k6 ↦ elim (chosen (bytes_eq (codes "refused") w) (take_word plain_number ws refusal_by) None s k6.1) [
                    | inl k ↦ refused_was w ws s (sym (same_bytes (codes "refused") w k.0)) k.1
                    | inr k7 ↦ absurd (none_some s k7.1)
                  ]
                ]
              ]
            ]
          ]
        ]
      ]
    ]

-- an answer that is read has the words that it was read from
pub said_was : (ws : List (List ℕ)) (s : Said) → said_in ws ≡ Some s → (ws ≡ said_words s) × CanBeSaid s
said_was [] s e = absurd (none_some s e)
said_was (w ∷ ws) s e = by_word w ws s e

pub equals_was : (ws : List (List ℕ)) (s : Said) → after_equals ws ≡ Some s → (ws ≡ codes "=" ∷ said_words s) × CanBeSaid s
equals_was [] s e = absurd (none_some s e)
equals_was (w ∷ ws) s e =
    elim (chosen (bytes_eq (codes "=") w) (said_in ws) None s e) [
      | inl k ↦ let r = said_was ws s k.1 in (ap (λ x. x ∷ ws) (sym (same_bytes (codes "=") w k.0)) ∙ ap (λ x. codes "=" ∷ x) r.0, r.1)
      | inr k ↦ absurd (none_some s k.1)
    ]
