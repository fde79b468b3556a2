-- Walks over the words of a block or a stack, and over stacks.
use Rattle.std.proofs.Common.{◌≡◌, ℕ, zero, suc, ◌+◌, ◌-◌, ◌*◌, ◌/◌, ◌%◌, ◌<◌, ◌≤◌, ◌==◌, Bool, true, false, ◌&&◌, cond, leb, ltb, List, [], ◌∷◌, ◌++◌, length, Option, Some, None, find, filter, flat_map, refl, sym, ◌∙◌, ap, subst, arith, le-leb, leb-true, lt-ltb, ltb-true, eq-eqb}
use Rattle.std.proofs.lemmas.Bool.{and_from, lt-leb, le-ltb}
use Rattle.std.proofs.lemmas.List.{length-append}
use Rattle.std.proofs.lemmas.List.Elements.{filter-append}
use Rattle.km_model.proofs.Lists.{find_in}
use Rattle.km_model.proofs.Cases.{elim_false, none_some, some_same}
use Rattle.km_base.specs.declared.spans.Span.{Span}
use Rattle.km_model.specs.Memory.{base, in_memory, word_at, words_from}
use Rattle.km_model.specs.Blocks.{Block, is_scanned, scanned_words}
use Rattle.km_model.specs.Tasks.{Task, stack_words}
use Rattle.km_tasks.specs.Lives.{AreNumbered}
use Rattle.km_words.specs.Told.{Told}
use Rattle.km_why.specs.Told.{TellsSame, memory_of}
use Rattle.km_why.specs.References.{refers_to, references}

-- the address of a word of the memory
word_of : (z words start size k i : ℕ) → start ≡ z + 8 * k → start + size ≤ z + 8 * words → i < size / 8
    → (leb z (start + 8 * i) && ((start + 8 * i - z) % 8 == 0) && ltb (start + 8 * i - z) (8 * words)) ≡ true
word_of z words start size k i e within lt =
    and_from (leb z (start + 8 * i) && ((start + 8 * i - z) % 8 == 0)) (ltb (start + 8 * i - z) (8 * words))
    (and_from (leb z (start + 8 * i)) ((start + 8 * i - z) % 8 == 0) (le-leb z (start + 8 * i) (omega (arith, e))) (eq-eqb ((start + 8 * i - z) % 8) 0 (omega (arith, e))))
    (lt-ltb (start + 8 * i - z) (8 * words) (omega (arith, e, within, lt)))

pub is_word : (words start size k i : ℕ) → start ≡ base + 8 * k → start + size ≤ base + 8 * words → i < size / 8 → in_memory words (start + 8 * i) ≡ true
is_word words start size k i e within lt = word_of base words start size k i e within lt

-- the references in these words, the first and the others
pub references_cons : (memory : List ℕ) (target but : Span) (a : ℕ) (words : List ℕ)
    → references memory target but (a ∷ words) ≡ cond (refers_to target but a (word_at memory a)) 1 0 + references memory target but words
references_cons memory target but a words =
    elim (refers_to target but a (word_at memory a)) as (λ q. length (cond q (a ∷ filter (λ x. refers_to target but x (word_at memory x)) words) (filter (λ x. refers_to target but x (word_at memory x)) words)) ≡ cond q 1 0 + length (filter (λ x. refers_to target but x (word_at memory x)) words)) [
      | true ↦ omega arith
      | false ↦ omega arith
    ]

pub references_append : (memory : List ℕ) (target but : Span) (xs ys : List ℕ)
    → references memory target but (xs ++ ys) ≡ references memory target but xs + references memory target but ys
references_append memory target but xs ys =
    ap length (filter-append (λ x. refers_to target but x (word_at memory x)) xs ys) ∙ length-append (filter (λ x. refers_to target but x (word_at memory x)) xs) (filter (λ x. refers_to target but x (word_at memory x)) ys)

-- words from an address on are no lower
pub above : (p : ℕ → Bool) (n z x : ℕ) → x ≤ z → filter (leb x) (filter p (words_from n z)) ≡ filter p (words_from n z)
above p zero z x le = refl
above p (suc n) z x le =
    elim (p z) as (λ q. filter (leb x) (cond q (z ∷ filter p (words_from n (z + 8))) (filter p (words_from n (z + 8)))) ≡ cond q (z ∷ filter p (words_from n (z + 8))) (filter p (words_from n (z + 8)))) [
      | true ↦ rw (le-leb x z le) (ap (λ ws. z ∷ ws) (above p n (z + 8) x (omega (arith, le))))
      | false ↦ above p n (z + 8) x (omega (arith, le))
    ]

not_below : (x z : ℕ) → leb x z ≡ false → z < x
not_below x z e = elim (ltb z x) as (λ q. ltb z x ≡ q → z < x) [ true ↦ λ f. ltb-true z x f | false ↦ λ f. absurd (elim_false (sym e ∙ le-leb x z (let le : x ≤ z = above_it f in le))) ] refl
  where
    above_it : ltb z x ≡ false → x ≤ z
    above_it f = leb-true x z (grind arith)

-- the words that pass, from one on
module _ (p : ℕ → Bool) where
  pub rest_of : (n z x a : ℕ) → find (leb x) (filter p (words_from n z)) ≡ Some a → filter (leb x) (filter p (words_from n z)) ≡ a ∷ filter (leb (a + 8)) (filter p (words_from n z))
  rest_of zero z x a e = absurd (none_some a e)
  rest_of (suc n) z x a e = go (rest_of n (z + 8) x a) (p z) e
    where
      ws : List ℕ
      ws = filter p (words_from n (z + 8))

      first : (find (leb x) ws ≡ Some a → filter (leb x) ws ≡ a ∷ filter (leb (a + 8)) ws) → (q : Bool) → leb x z ≡ q → cond q (Some z) (find (leb x) ws) ≡ Some a
          → cond q (z ∷ filter (leb x) ws) (filter (leb x) ws) ≡ a ∷ cond (leb (a + 8) z) (z ∷ filter (leb (a + 8)) ws) (filter (leb (a + 8)) ws)
      first rest true f g =
          let same : z ≡ a = some_same z a g in
          let le : x ≤ z = leb-true x z f in
          subst (λ b. z ∷ filter (leb x) ws ≡ b ∷ cond (leb (b + 8) z) (z ∷ filter (leb (b + 8)) ws) (filter (leb (b + 8)) ws)) same
          (rw (lt-leb (z + 8) z (omega arith)) (ap (λ vs. z ∷ vs) (above p n (z + 8) x (omega (arith, le)) ∙ sym (above p n (z + 8) (z + 8) (omega arith)))))
      first rest false f g =
          let low : z < x = not_below x z f in
          let le : x ≤ a = leb-true x a (find_in (leb x) ws a g).0 in
          rw (lt-leb (a + 8) z (omega (arith, low, le))) (rest g)

      go : (find (leb x) ws ≡ Some a → filter (leb x) ws ≡ a ∷ filter (leb (a + 8)) ws) → (q : Bool) → find (leb x) (cond q (z ∷ ws) ws) ≡ Some a
          → filter (leb x) (cond q (z ∷ ws) ws) ≡ a ∷ filter (leb (a + 8)) (cond q (z ∷ ws) ws)
      go rest true f = first rest (leb x z) refl f
      go rest false f = rest f

  pub none_left : (n z x : ℕ) → find (leb x) (filter p (words_from n z)) ≡ None → filter (leb x) (filter p (words_from n z)) ≡ []
  none_left n z x e = go (filter p (words_from n z)) e
    where
      go : (ws : List ℕ) → find (leb x) ws ≡ None → filter (leb x) ws ≡ []
      go [] f = refl
      go (w ∷ ws) f = elim (leb x w) as (λ q. cond q (Some w) (find (leb x) ws) ≡ None → cond q (w ∷ filter (leb x) ws) (filter (leb x) ws) ≡ []) [
        | true ↦ λ g. absurd (none_some w (sym g))
        | false ↦ λ g. go ws g
      ] f

  all_left : (n z x : ℕ) → x ≤ z → filter (leb x) (filter p (words_from n z)) ≡ filter p (words_from n z)
  all_left n z x le = above p n z x le

-- the scanned words of a block from an index on
abbrev pub rest : Block → ℕ → List ℕ
rest b from = filter (leb (b.start + 8 * from)) (scanned_words b)

-- how much is still lacking, and what is left to look at
pub record IsLacking (memory : List ℕ) (target but : Span) (wanted : ℕ) (all : List ℕ) (lacking : ℕ) (left : List ℕ) : Type 0 where
  pub still : wanted - references memory target but all ≡ lacking - references memory target but left

pub lacking_begins : (memory : List ℕ) (target but : Span) (wanted : ℕ) (b : Block) → IsLacking memory target but wanted (scanned_words b) wanted (rest b 0)
lacking_begins memory target but wanted b =
    record { still = ap (λ ws. wanted - references memory target but ws) (sym (all_left (is_scanned b) (b.size / 8) b.start (b.start + 8 * 0) (omega arith))) }

pub lacking_goes_on : (memory : List ℕ) (target but : Span) (wanted : ℕ) (all : List ℕ) (lacking : ℕ) (b : Block) (from i : ℕ) (met : Bool)
    → IsLacking memory target but wanted all lacking (rest b from) → Some (b.start + 8 * i) ≡ find (leb (b.start + 8 * from)) (scanned_words b)
    → met ≡ refers_to target but (b.start + 8 * i) (word_at memory (b.start + 8 * i)) → (after : ℕ) → after ≡ cond met (lacking - 1) lacking
    → IsLacking memory target but wanted all after (rest b (i + 1))
lacking_goes_on memory target but wanted all lacking b from i met l e m after is =
    let next : b.start + 8 * i + 8 ≡ b.start + 8 * (i + 1) = omega arith in
    let split : rest b from ≡ (b.start + 8 * i) ∷ rest b (i + 1) =
    rest_of (is_scanned b) (b.size / 8) b.start (b.start + 8 * from) (b.start + 8 * i) (sym e) ∙ ap (λ x. (b.start + 8 * i) ∷ filter (leb x) (scanned_words b)) next in
    let counted : references memory target but (rest b from) ≡ cond met 1 0 + references memory target but (rest b (i + 1)) =
    ap (references memory target but) split ∙ references_cons memory target but (b.start + 8 * i) (rest b (i + 1)) ∙ ap (λ q. cond q 1 0 + references memory target but (rest b (i + 1))) (sym m) in
    record { still = l.still ∙ go met (references memory target but (rest b from)) (references memory target but (rest b (i + 1))) counted ∙ ap (λ n. n - references memory target but (rest b (i + 1))) (sym is) }
  where
    go : (q : Bool) (r s : ℕ) → r ≡ cond q 1 0 + s → lacking - r ≡ cond q (lacking - 1) lacking - s
    go true r s f = omega (arith, f)
    go false r s f = omega (arith, f)

pub lacking_ends : (memory : List ℕ) (target but : Span) (wanted : ℕ) (all : List ℕ) (lacking : ℕ) (b : Block) (from : ℕ)
    → IsLacking memory target but wanted all lacking (rest b from) → None ≡ find (leb (b.start + 8 * from)) (scanned_words b)
    → lacking ≡ wanted - references memory target but all
lacking_ends memory target but wanted all lacking b from l e =
    let now : wanted - references memory target but all ≡ lacking - references memory target but [] =
    l.still ∙ ap (λ ws. lacking - references memory target but ws) (none_left (is_scanned b) (b.size / 8) b.start (b.start + 8 * from) (sym e)) in
    omega (arith, now)

-- the next word is no earlier
pub next_above : (b : Block) (from i : ℕ) → Some (b.start + 8 * i) ≡ find (leb (b.start + 8 * from)) (scanned_words b) → from ≤ i
next_above b from i e =
    let le : b.start + 8 * from ≤ b.start + 8 * i = leb-true (b.start + 8 * from) (b.start + 8 * i) (find_in (leb (b.start + 8 * from)) (scanned_words b) (b.start + 8 * i) (sym e)).0 in
    omega (arith, le)

pub told_same : (t : Told) → TellsSame t t
told_same t = record { size = refl; place = refl; memory = refl; given = refl }

pub told_then : (t u v : Told) → TellsSame t u → TellsSame u v → TellsSame t v
told_then t u v s r = record { size = r.size ∙ s.size; place = r.place ∙ s.place; memory = r.memory ∙ s.memory; given = r.given ∙ s.given }

pub memory_same : (t u : Told) → TellsSame t u → memory_of u ≡ memory_of t
memory_same t u s = ap (λ (o : Option (List ℕ)). elim o as (λ _. List ℕ) [ None ↦ [] | Some memory ↦ memory ]) s.memory

-- the words of a stack from an index on
abbrev pub rest_of_stack : ℕ → ℕ → List ℕ
rest_of_stack stack i = words_from (512 - i) (stack + 8 * i)

pub words_next : (n start : ℕ) → 0 < n → words_from n start ≡ start ∷ words_from (n - 1) (start + 8)
words_next zero start pos = absurd (omega (arith, pos))
words_next (suc n) start pos = ap (λ k. start ∷ words_from k (start + 8)) (let e : n ≡ suc n - 1 = omega arith in e)

pub stack_goes_on : (memory : List ℕ) (target but : Span) (wanted : ℕ) (all : List ℕ) (lacking stack i : ℕ)
    → IsLacking memory target but wanted all lacking (rest_of_stack stack i) → i < 512
    → (after : ℕ) → after ≡ cond (refers_to target but (stack + 8 * i) (word_at memory (stack + 8 * i))) (lacking - 1) lacking
    → IsLacking memory target but wanted all after (rest_of_stack stack (i + 1))
stack_goes_on memory target but wanted all lacking stack i l lt after is =
    let split : rest_of_stack stack i ≡ (stack + 8 * i) ∷ rest_of_stack stack (i + 1) =
    words_next (512 - i) (stack + 8 * i) (omega (arith, lt)) ∙ ap (λ n. (stack + 8 * i) ∷ words_from n (stack + 8 * i + 8)) (let e : 512 - i - 1 ≡ 512 - (i + 1) = omega arith in e)
    ∙ ap (λ x. (stack + 8 * i) ∷ words_from (512 - (i + 1)) x) (let e : stack + 8 * i + 8 ≡ stack + 8 * (i + 1) = omega arith in e) in
    let met : Bool = refers_to target but (stack + 8 * i) (word_at memory (stack + 8 * i)) in
    let counted : references memory target but (rest_of_stack stack i) ≡ cond (refers_to target but (stack + 8 * i) (word_at memory (stack + 8 * i))) 1 0 + references memory target but (rest_of_stack stack (i + 1)) =
    ap (references memory target but) split ∙ references_cons memory target but (stack + 8 * i) (rest_of_stack stack (i + 1)) in
    record { still = l.still ∙ go (refers_to target but (stack + 8 * i) (word_at memory (stack + 8 * i))) (references memory target but (rest_of_stack stack i)) (references memory target but (rest_of_stack stack (i + 1))) counted ∙ ap (λ n. n - references memory target but (rest_of_stack stack (i + 1))) (sym is) }
  where
    go : (q : Bool) (r s : ℕ) → r ≡ cond q 1 0 + s → lacking - r ≡ cond q (lacking - 1) lacking - s
    go true r s f = omega (arith, f)
    go false r s f = omega (arith, f)

pub stack_begins : (memory : List ℕ) (target but : Span) (wanted stack : ℕ) → IsLacking memory target but wanted (words_from 512 stack) wanted (rest_of_stack stack 0)
stack_begins memory target but wanted stack = record { still = ap (λ x. wanted - references memory target but (words_from 512 x)) (let e : stack ≡ stack + 8 * 0 = omega arith in e) }

-- nothing is left
pub lacking_none : (memory : List ℕ) (target but : Span) (wanted : ℕ) (all : List ℕ) (lacking : ℕ) (left : List ℕ) → IsLacking memory target but wanted all lacking left → left ≡ []
    → lacking ≡ wanted - references memory target but all
lacking_none memory target but wanted all lacking left l e =
    let now : wanted - references memory target but all ≡ lacking - references memory target but [] = l.still ∙ ap (λ ws. lacking - references memory target but ws) e in
    omega (arith, now)

-- the stacks of the tasks after one
abbrev pub stacks_after : List Task → ℕ → List ℕ
stacks_after tasks last = flat_map stack_words (filter (λ (t : Task). ltb last t.number) tasks)

-- the first task after a number, and the others
pub tasks_split : (tasks : List Task) (low high last : ℕ) (t : Task) → AreNumbered low tasks high → find (λ (u : Task). ltb last u.number) tasks ≡ Some t
    → filter (λ (u : Task). ltb last u.number) tasks ≡ t ∷ filter (λ (u : Task). ltb t.number u.number) tasks
tasks_split [] low high last t numbers e = absurd (none_some t e)
tasks_split (u ∷ tasks) low high last t numbers e = go (tasks_split tasks u.number high last t numbers.1) (ltb last u.number) refl e
  where
    -- after its number each of the later ones
    behind : (ts : List Task) (n m : ℕ) → m ≤ n → AreNumbered n ts high → filter (λ (x : Task). ltb m x.number) ts ≡ ts
    behind [] n m le num = refl
    behind (x ∷ ts) n m le num =
        let lt = num.0 in
        rw (lt-ltb m x.number (omega (arith, le, lt))) (ap (λ ys. x ∷ ys) (behind ts x.number m (omega (arith, le, lt)) num.1))

    go : (find (λ (x : Task). ltb last x.number) tasks ≡ Some t → filter (λ (x : Task). ltb last x.number) tasks ≡ t ∷ filter (λ (x : Task). ltb t.number x.number) tasks)
        → (q : Bool) → ltb last u.number ≡ q → cond q (Some u) (find (λ (x : Task). ltb last x.number) tasks) ≡ Some t
        → cond q (u ∷ filter (λ (x : Task). ltb last x.number) tasks) (filter (λ (x : Task). ltb last x.number) tasks) ≡ t ∷ cond (ltb t.number u.number) (u ∷ filter (λ (x : Task). ltb t.number x.number) tasks) (filter (λ (x : Task). ltb t.number x.number) tasks)
    go rest true f g =
        let same : u ≡ t = some_same u t g in
        let lt : last < u.number = ltb-true last u.number f in
        subst (λ (x : Task). u ∷ filter (λ (y : Task). ltb last y.number) tasks ≡ x ∷ cond (ltb x.number u.number) (u ∷ filter (λ (y : Task). ltb x.number y.number) tasks) (filter (λ (y : Task). ltb x.number y.number) tasks)) same
        (rw (not-ltb u.number) (ap (λ ys. u ∷ ys) (behind tasks u.number last (omega (arith, lt)) numbers.1 ∙ sym (behind tasks u.number u.number (omega arith) numbers.1))))
      where
        not-ltb : (n : ℕ) → ltb n n ≡ false
        not-ltb n = le-ltb n n (omega arith)
    go rest false f g =
        let found = find_in (λ (x : Task). ltb last x.number) tasks t g in
        let low' : last < t.number = ltb-true last t.number found.0 in
        rw (le-ltb t.number u.number (above_u f low')) (rest g)
      where
        above_u : ltb last u.number ≡ false → last < t.number → u.number ≤ t.number
        above_u h lt = let le : u.number ≤ last = leb-true u.number last (grind arith) in omega (arith, le, lt)

pub stacks_go_on : (memory : List ℕ) (target but : Span) (wanted : ℕ) (all : List ℕ) (lacking low high : ℕ) (tasks : List Task) (last : ℕ) (t : Task)
    → IsLacking memory target but wanted all lacking (stacks_after tasks last) → AreNumbered low tasks high → find (λ (u : Task). ltb last u.number) tasks ≡ Some t
    → (after : ℕ) → after ≡ lacking - references memory target but (stack_words t) → IsLacking memory target but wanted all after (stacks_after tasks t.number)
stacks_go_on memory target but wanted all lacking low high tasks last t l numbers e after is =
    let split : stacks_after tasks last ≡ stack_words t ++ stacks_after tasks t.number = ap (flat_map stack_words) (tasks_split tasks low high last t numbers e) in
    let counted : references memory target but (stacks_after tasks last) ≡ references memory target but (stack_words t) + references memory target but (stacks_after tasks t.number) =
    ap (references memory target but) split ∙ references_append memory target but (stack_words t) (stacks_after tasks t.number) in
    let still = l.still in
    record { still = omega (arith, still, counted, is) }
