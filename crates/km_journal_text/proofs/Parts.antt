-- The line of an event is its three parts.
use Rattle.std.proofs.Common.{◌≡◌, ℕ, List, [], ◌∷◌, ◌++◌, refl, sym, ap, ◌∙◌, append_assoc, codes, decimal}
use Rattle.std.proofs.lemmas.List.{append-nil}
use Rattle.km_base.specs.declared.acts.Act.{Act}
use Rattle.km_base.specs.declared.acts.Act.TheVariants.{Section, TaskStart, TaskExit, SetReg, Load, Store, Kmalloc, Kfree, Pages, FreePages, VmTake, VmGive, BootMem, FreePart, NotLeak, Ignore, NoScan, ScanArea, TransientLeak, File, Read, Tick, AutoBegin, Step, Halt}
use Rattle.km_base.specs.declared.acts.Answer.{Answer}
use Rattle.km_model.specs.Text.{as_text_line}
use Rattle.km_entries.specs.declared.lines.JournalLine.TheVariants as line
use Rattle.km_entries.specs.Lines.{act_words, before_words, journal_line_text, said_of, said_words}
use Rattle.km_entries.specs.Words.{spaced}
use Rattle.km_journal_text.specs.Events.{after_name, after_spaces, before_name, keyword, operands_of, spaced_name}

-- a first word, and the others after it
spaced_after : (w : List ℕ) (ws : List (List ℕ)) → spaced (w ∷ ws) ≡ w ++ after_spaces ws
spaced_after w [] = sym (append-nil w)
spaced_after w (v ∷ ws) = ap (λ t. w ++ 32 ∷ t) (spaced_after v ws)

-- words before others
after_both : (ws vs : List (List ℕ)) → after_spaces (before_words ws vs) ≡ after_spaces ws ++ after_spaces vs
after_both [] vs = refl
after_both (w ∷ ws) vs = ap (λ t. 32 ∷ w ++ t) (after_both ws vs) ∙ ap (λ t. 32 ∷ t) (sym (append_assoc w (after_spaces ws) (after_spaces vs)))

-- the words of an act
act_parts : (a : Act) → after_spaces (act_words a) ≡ (32 ∷ keyword a) ++ (spaced_name a ++ after_spaces (operands_of a))
act_parts (Section name n) = refl
act_parts (TaskStart name) = refl
act_parts (TaskExit name) = refl
act_parts (SetReg task reg value) = refl
act_parts (Load task reg a) = refl
act_parts (Store a value) = refl
act_parts (Kmalloc n) = refl
act_parts (Kfree a) = refl
act_parts (Pages n) = refl
act_parts (FreePages a) = refl
act_parts (VmTake n) = refl
act_parts (VmGive a) = refl
act_parts (BootMem n) = refl
act_parts (FreePart a n) = refl
act_parts (NotLeak a) = refl
act_parts (Ignore a) = refl
act_parts (NoScan a) = refl
act_parts (ScanArea a n) = refl
act_parts (TransientLeak a) = refl
act_parts (File word) = refl
act_parts Read = refl
act_parts (Tick n) = refl
act_parts AutoBegin = refl
act_parts Step = refl
act_parts Halt = refl

-- pieces are put together another way
in_three : (a b c d e f : List ℕ) → (a ++ ((b ++ (c ++ d)) ++ e)) ++ f ≡ (a ++ b) ++ (c ++ ((d ++ e) ++ f))
in_three a b c d e f =
    ap (λ t. (a ++ t) ++ f) (append_assoc b (c ++ d) e ∙ ap (λ t. b ++ t) (append_assoc c d e))
    ∙ ap (λ t. t ++ f) (sym (append_assoc a b (c ++ (d ++ e))))
    ∙ append_assoc (a ++ b) (c ++ (d ++ e)) f ∙ ap (λ t. (a ++ b) ++ t) (append_assoc c (d ++ e) f)

-- the line of an event is its three parts
pub event_parts : (by : ℕ) (a : Act) (given : Answer) → journal_line_text (line.Event by a (said_of given)) ≡ before_name by a ++ (spaced_name a ++ after_name a given)
event_parts by a given =
    let said = codes "=" ∷ said_words (said_of given) in
    let first = 32 ∷ keyword a in
    let operands = after_spaces (operands_of a) in
    let rest = after_spaces said in
    let words : spaced (decimal by ∷ before_words (act_words a) said) ≡ decimal by ++ ((first ++ (spaced_name a ++ operands)) ++ rest) =
    spaced_after (decimal by) (before_words (act_words a) said) ∙ ap (λ t. decimal by ++ t) (after_both (act_words a) said ∙ ap (λ t. t ++ rest) (act_parts a)) in
    ap as_text_line words ∙ in_three (decimal by) first (spaced_name a) operands rest (10 ∷ [])
    ∙ ap (λ t. before_name by a ++ (spaced_name a ++ (t ++ 10 ∷ []))) (sym (append_assoc operands (codes " =") (after_spaces (said_words (said_of given)))))

-- a word is put after a space
pub word_put : (t w begun all : List ℕ) → begun ≡ t ++ 32 ∷ [] → all ≡ begun ++ w → all ≡ t ++ 32 ∷ w
word_put t w begun all b a = a ∙ ap (λ x. x ++ w) b ∙ append_assoc t (32 ∷ []) w

-- two words are put
pub both_put : (t w v begun all : List ℕ) → begun ≡ t ++ 32 ∷ w → all ≡ begun ++ 32 ∷ v → all ≡ t ++ after_spaces (w ∷ v ∷ [])
both_put t w v begun all b a = a ∙ ap (λ x. x ++ 32 ∷ v) b ∙ append_assoc t (32 ∷ w) (32 ∷ v) ∙ ap (λ x. t ++ (32 ∷ w ++ 32 ∷ x)) (sym (append-nil v))

-- some bytes, and then one or two words, are put
pub put_one : (t k w begun all : List ℕ) → begun ≡ t ++ k → all ≡ begun ++ 32 ∷ w → all ≡ t ++ (k ++ after_spaces (w ∷ []))
put_one t k w begun all b a = a ∙ ap (λ x. x ++ 32 ∷ w) b ∙ append_assoc t k (32 ∷ w) ∙ ap (λ x. t ++ (k ++ 32 ∷ x)) (sym (append-nil w))

pub put_two : (t k w v begun more all : List ℕ) → begun ≡ t ++ k → more ≡ begun ++ 32 ∷ w → all ≡ more ++ 32 ∷ v → all ≡ t ++ (k ++ after_spaces (w ∷ v ∷ []))
put_two t k w v begun more all b m a = both_put begun w v more all m a ∙ ap (λ x. x ++ after_spaces (w ∷ v ∷ [])) b ∙ append_assoc t k (after_spaces (w ∷ v ∷ []))
