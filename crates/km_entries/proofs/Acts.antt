-- The acts of a line are read back.
use Rattle.std.proofs.Common.{◌≡◌, ℕ, Bool, true, false, List, [], ◌∷◌, decimal, Option, Some, None, option_and_then, bytes_eq, codes, refl, ap, sym, subst, ◌∙◌}
use Rattle.km_base.specs.declared.acts.Act.{Act}
use Rattle.km_base.specs.declared.acts.Act.TheVariants.{Section, TaskStart, TaskExit, SetReg, Load, Store, Kmalloc, Kfree, Pages, FreePages, VmTake, VmGive, BootMem, FreePart, NotLeak, Ignore, NoScan, ScanArea, TransientLeak, File, Read, Tick, AutoBegin, Step, Halt}
use Rattle.km_model.proofs.Cases.{none_some, some_same}
use Rattle.km_entries.specs.Lines.{CanBeMade, act_words, before_words, reg_number}
use Rattle.km_entries.specs.Reading.{Form, Rest, act_of, bare, forms, read_form, reg_of, take_word, with_one, with_three, with_two}
use Rattle.km_entries.proofs.Numbers.{number_again, number_was}
use Rattle.km_entries.proofs.Addresses.{address_again, address_was}
use Rattle.km_entries.proofs.Readers.{file_again, file_was, name_again, name_was, reg_again, reg_was, same_bytes}

-- an act is read from its words, whatever stands after it
pub act_again : (a : Act) (ws : List (List ℕ)) → CanBeMade a → act_of (before_words (act_words a) ws) ≡ Some (a, ws)
act_again (Section name n) ws h = rw (name_again name h.0, number_again n h.1) refl
act_again (TaskStart name) ws h = rw (name_again name h) refl
act_again (TaskExit name) ws h = rw (name_again name h) refl
act_again (SetReg task reg value) ws h = rw (name_again task h.0, reg_again reg, address_again value h.1) refl
act_again (Load task reg a) ws h = rw (name_again task h.0, reg_again reg, address_again a h.1) refl
act_again (Store a value) ws h = rw (address_again a h.0, address_again value h.1) refl
act_again (Kmalloc n) ws h = rw (number_again n h) refl
act_again (Kfree a) ws h = rw (address_again a h) refl
act_again (Pages n) ws h = rw (number_again n h) refl
act_again (FreePages a) ws h = rw (address_again a h) refl
act_again (VmTake n) ws h = rw (number_again n h) refl
act_again (VmGive a) ws h = rw (address_again a h) refl
act_again (BootMem n) ws h = rw (number_again n h) refl
act_again (FreePart a n) ws h = rw (address_again a h.0, number_again n h.1) refl
act_again (NotLeak a) ws h = rw (address_again a h) refl
act_again (Ignore a) ws h = rw (address_again a h) refl
act_again (NoScan a) ws h = rw (address_again a h) refl
act_again (ScanArea a n) ws h = rw (address_again a h.0, number_again n h.1) refl
act_again (TransientLeak a) ws h = rw (address_again a h) refl
act_again (File word) ws h = rw (file_again word h) refl
act_again Read ws h = refl
act_again (Tick n) ws h = rw (number_again n h) refl
act_again AutoBegin ws h = refl
act_again Step ws h = refl
act_again Halt ws h = refl

-- what was read of a word, and of those after it
pub take_was : {A B : Type 0} (read : List ℕ → Option A) (ws : List (List ℕ)) (k : A → List (List ℕ) → Option B) (r : B) → take_word read ws k ≡ Some r
    → (w : List ℕ) × (rest : List (List ℕ)) × (a : A) × (ws ≡ w ∷ rest) × (read w ≡ Some a) × (k a rest ≡ Some r)
take_was read [] k r e = absurd (none_some r e)
take_was {A} read (w ∷ ws) k r e = by_word (read w) refl
  where
    by_word : (o : Option A) → read w ≡ o → (v : List ℕ) × (rest : List (List ℕ)) × (a : A) × (w ∷ ws ≡ v ∷ rest) × (read v ≡ Some a) × (k a rest ≡ Some r)
    by_word None t = absurd (none_some r (sym (ap (option_and_then (λ a. k a ws)) t) ∙ e))
    by_word (Some a) t = (w, ws, a, refl, t, sym (ap (option_and_then (λ x. k x ws)) t) ∙ e)

pub pair_was : {A B : Type 0} (a b : A) (x y : B) → ◌≡◌ {A = Option (A × B)} (Some (a, x)) (Some (b, y)) → (a ≡ b) × (x ≡ y)
pair_was {A} {B} a b x y e =
    let p : A × B = (a, x) in
    let q : A × B = (b, y) in
    let same : p ≡ q = some_same p q e in
    (ap (λ (r : A × B). r.0) same, ap (λ (r : A × B). r.1) same)

-- what a form of words says
abbrev pub Tells : {A : Type 0} → (List ℕ → Option A) → (A → List ℕ) → (A → Type 0) → Type 0
Tells {A} read text Fits = (w : List ℕ) (a : A) → read w ≡ Some a → (w ≡ text a) × Fits a

tells_reg : Tells reg_of (λ r. decimal (reg_number r)) (λ _. Unit {0})
tells_reg w r e = (reg_was w r e, tt)

-- an act that is read has these words
abbrev IsRead : List ℕ → (List (List ℕ) → Rest Act) → Type 0
IsRead key read = (ws : List (List ℕ)) (a : Act) (rest : List (List ℕ)) → read ws ≡ Some (a, rest) → (key ∷ ws ≡ before_words (act_words a) rest) × CanBeMade a

bare_was : (key : List ℕ) (made : Act) → act_words made ≡ key ∷ [] → CanBeMade made → IsRead key (bare made)
bare_was key made t h ws a rest e =
    let same : made ≡ a = (pair_was made a ws rest e).0 in
    let back : ws ≡ rest = (pair_was made a ws rest e).1 in
    subst (λ (x : Act). (key ∷ ws ≡ before_words (act_words x) rest) × CanBeMade x) same
    (ap (λ x. key ∷ x) back ∙ sym (ap (λ x. before_words x rest) t), h)

one_was : {A : Type 0} {read : List ℕ → Option A} {text : A → List ℕ} {Fits : A → Type 0} → Tells read text Fits → (key : List ℕ) (make : A → Act)
    → ((a : A) → act_words (make a) ≡ key ∷ text a ∷ []) → ((a : A) → Fits a → CanBeMade (make a)) → IsRead key (with_one read make)
one_was {A} {read} {text} {Fits} tells key make t h ws a rest e =
    let k = take_was read ws (λ x more. bare (make x) more) (a, rest) e in
    let told = tells k.0 k.2 k.4 in
    let same : make k.2 ≡ a = (pair_was (make k.2) a k.1 rest k.5).0 in
    let back : k.1 ≡ rest = (pair_was (make k.2) a k.1 rest k.5).1 in
    subst (λ (x : Act). (key ∷ ws ≡ before_words (act_words x) rest) × CanBeMade x) same
    (ap (λ x. key ∷ x) (k.3 ∙ ap (λ x. x ∷ k.1) told.0 ∙ ap (λ x. text k.2 ∷ x) back) ∙ sym (ap (λ x. before_words x rest) (t k.2)), h k.2 told.1)

two_was : {A B : Type 0} {read : List ℕ → Option A} {text : A → List ℕ} {Fits : A → Type 0} {read' : List ℕ → Option B} {text' : B → List ℕ} {Fits' : B → Type 0}
    → Tells read text Fits → Tells read' text' Fits' → (key : List ℕ) (make : A → B → Act)
    → ((a : A) (b : B) → act_words (make a b) ≡ key ∷ text a ∷ text' b ∷ []) → ((a : A) (b : B) → Fits a → Fits' b → CanBeMade (make a b)) → IsRead key (with_two read read' make)
two_was {A} {B} {read} {text} {Fits} {read'} {text'} {Fits'} tells tells' key make t h ws a rest e =
    let k = take_was read ws (λ x more. with_one read' (make x) more) (a, rest) e in
    let told = tells k.0 k.2 k.4 in
    let j = take_was read' k.1 (λ x more. bare (make k.2 x) more) (a, rest) k.5 in
    let told' = tells' j.0 j.2 j.4 in
    let same : make k.2 j.2 ≡ a = (pair_was (make k.2 j.2) a j.1 rest j.5).0 in
    let back : j.1 ≡ rest = (pair_was (make k.2 j.2) a j.1 rest j.5).1 in
    subst (λ (x : Act). (key ∷ ws ≡ before_words (act_words x) rest) × CanBeMade x) same (
      ap (λ x. key ∷ x) (k.3 ∙ ap (λ x. x ∷ k.1) told.0 ∙ ap (λ x. text k.2 ∷ x) (j.3 ∙ ap (λ x. x ∷ j.1) told'.0 ∙ ap (λ x. text' j.2 ∷ x) back)) ∙ sym (ap (λ x. before_words x rest) (t k.2 j.2)),
      h k.2 j.2 told.1 told'.1,
    )

three_was : {A B C : Type 0} {read : List ℕ → Option A} {text : A → List ℕ} {Fits : A → Type 0} {read' : List ℕ → Option B} {text' : B → List ℕ} {Fits' : B → Type 0} {read'' : List ℕ → Option C} {text'' : C → List ℕ} {Fits'' : C → Type 0}
    → Tells read text Fits → Tells read' text' Fits' → Tells read'' text'' Fits'' → (key : List ℕ) (make : A → B → C → Act)
    → ((a : A) (b : B) (c : C) → act_words (make a b c) ≡ key ∷ text a ∷ text' b ∷ text'' c ∷ []) → ((a : A) (b : B) (c : C) → Fits a → Fits' b → Fits'' c → CanBeMade (make a b c))
    → IsRead key (with_three read read' read'' make)
three_was {A} {B} {C} {read} {text} {Fits} {read'} {text'} {Fits'} {read''} {text''} {Fits''} tells tells' tells'' key make t h ws a rest e =
    let k = take_was read ws (λ x more. with_two read' read'' (make x) more) (a, rest) e in
    let told = tells k.0 k.2 k.4 in
    let j = take_was read' k.1 (λ x more. with_one read'' (make k.2 x) more) (a, rest) k.5 in
    let told' = tells' j.0 j.2 j.4 in
    let i = take_was read'' j.1 (λ x more. bare (make k.2 j.2 x) more) (a, rest) j.5 in
    let told'' = tells'' i.0 i.2 i.4 in
    let same : make k.2 j.2 i.2 ≡ a = (pair_was (make k.2 j.2 i.2) a i.1 rest i.5).0 in
    let back : i.1 ≡ rest = (pair_was (make k.2 j.2 i.2) a i.1 rest i.5).1 in
    subst (λ (x : Act). (key ∷ ws ≡ before_words (act_words x) rest) × CanBeMade x) same (
      ap (λ x. key ∷ x) (k.3 ∙ ap (λ x. x ∷ k.1) told.0 ∙ ap (λ x. text k.2 ∷ x) (j.3 ∙ ap (λ x. x ∷ j.1) told'.0 ∙ ap (λ x. text' j.2 ∷ x) (i.3 ∙ ap (λ x. x ∷ i.1) told''.0 ∙ ap (λ x. text'' i.2 ∷ x) back)))
          ∙ sym (ap (λ x. before_words x rest) (t k.2 j.2 i.2)),
      h k.2 j.2 i.2 told.1 told'.1 told''.1,
    )

-- so it is of all forms
abbrev AreRead : List Form → Type 0
AreRead [] = Unit {0}
AreRead (f ∷ fs) = IsRead f.keyword f.read × AreRead fs

are_read : AreRead forms
are_read = (
  two_was name_was number_was (codes "section") Section (λ a b. refl) (λ a b f g. (f, g)),
  (
    one_was name_was (codes "task") TaskStart (λ a. refl) (λ a f. f),
    (
      one_was name_was (codes "exit") TaskExit (λ a. refl) (λ a f. f),
      (
        three_was name_was tells_reg address_was (codes "reg") SetReg (λ a b c. refl) (λ a b c f g k. (f, k)),
        (
          three_was name_was tells_reg address_was (codes "load") Load (λ a b c. refl) (λ a b c f g k. (f, k)),
          (
            two_was address_was address_was (codes "store") Store (λ a b. refl) (λ a b f g. (f, g)),
            (
              one_was number_was (codes "kmalloc") Kmalloc (λ a. refl) (λ a f. f),
              (
                one_was address_was (codes "kfree") Kfree (λ a. refl) (λ a f. f),
                (
                  one_was number_was (codes "pages") Pages (λ a. refl) (λ a f. f),
                  (
                    one_was address_was (codes "freepages") FreePages (λ a. refl) (λ a f. f),
                    (
                      one_was number_was (codes "vmtake") VmTake (λ a. refl) (λ a f. f),
                      (
                        one_was address_was (codes "vmgive") VmGive (λ a. refl) (λ a f. f),
                        (
                          one_was number_was (codes "bootmem") BootMem (λ a. refl) (λ a f. f),
                          (
                            two_was address_was number_was (codes "free_part") FreePart (λ a b. refl) (λ a b f g. (f, g)),
                            (
                              one_was address_was (codes "not_leak") NotLeak (λ a. refl) (λ a f. f),
                              (
                                one_was address_was (codes "ignore") Ignore (λ a. refl) (λ a f. f),
                                (
                                  one_was address_was (codes "no_scan") NoScan (λ a. refl) (λ a f. f),
                                  (
                                    two_was address_was number_was (codes "scan_area") ScanArea (λ a b. refl) (λ a b f g. (f, g)),
                                    (
                                      one_was address_was (codes "transient_leak") TransientLeak (λ a. refl) (λ a f. f),
                                      (
                                        one_was file_was (codes "file") File (λ a. refl) (λ a f. f),
                                        (
                                          bare_was (codes "read") Read refl tt,
                                          (
                                            one_was number_was (codes "tick") Tick (λ a. refl) (λ a f. f),
                                            (
                                              bare_was (codes "auto") AutoBegin refl tt,
                                              (
                                                bare_was (codes "step") Step refl tt,
                                                (bare_was (codes "halt") Halt refl tt, tt),
                                              ),
                                            ),
                                          ),
                                        ),
                                      ),
                                    ),
                                  ),
                                ),
                              ),
                            ),
                          ),
                        ),
                      ),
                    ),
                  ),
                ),
              ),
            ),
          ),
        ),
      ),
    ),
  ),
)

form_was : (fs : List Form) → AreRead fs → (w : List ℕ) (ws : List (List ℕ)) (a : Act) (rest : List (List ℕ)) → read_form fs w ws ≡ Some (a, rest) → (w ∷ ws ≡ before_words (act_words a) rest) × CanBeMade a
form_was [] all w ws a rest e = absurd (none_some (a, rest) e)
form_was (f ∷ fs) all w ws a rest e = by_key (form_was fs all.1 w ws a rest) (bytes_eq f.keyword w) refl
  where
    by_key : (read_form fs w ws ≡ Some (a, rest) → (w ∷ ws ≡ before_words (act_words a) rest) × CanBeMade a) → (b : Bool) → bytes_eq f.keyword w ≡ b → (w ∷ ws ≡ before_words (act_words a) rest) × CanBeMade a
    by_key on true t =
        let k = all.0 ws a rest (sym (ap (λ b. elim b as (λ _. Rest Act) [ true ↦ f.read ws | false ↦ read_form fs w ws ]) t) ∙ e) in
        (ap (λ x. x ∷ ws) (sym (same_bytes f.keyword w t)) ∙ k.0, k.1)
    by_key on false t = on (sym (ap (λ b. elim b as (λ _. Rest Act) [ true ↦ f.read ws | false ↦ read_form fs w ws ]) t) ∙ e)

-- an act that is read has the words that it was read from
pub act_was : (ws : List (List ℕ)) (a : Act) (rest : List (List ℕ)) → act_of ws ≡ Some (a, rest) → (ws ≡ before_words (act_words a) rest) × CanBeMade a
act_was [] a rest e = absurd (none_some (a, rest) e)
act_was (w ∷ ws) a rest e = form_was forms are_read w ws a rest e
