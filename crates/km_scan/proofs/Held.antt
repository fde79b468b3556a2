use Rattle.std.proofs.Common.{◌≡◌, ℕ, ◌+◌, ◌-◌, ◌*◌, ◌/◌, Bool, true, false, ◌||◌, cond, List, [], ◌∷◌, drop, Option, Some, None, refl, sym, ap, ◌∙◌, subst, arith}
use Rattle.std.specs.Prelude.{find, ◌==◌, IfSome, if◌then◌else◌}
use Rattle.std.specs.List.{list_any}
use Rattle.std.proofs.lemmas.Bool.{eqb-true, eq-eqb}
use Rattle.km_links.specs.Chains.{first_of, is_in}
use Rattle.km_base.specs.declared.spans.Addr.{Addr}
use Rattle.km_record.specs.declared.kinds.RecId.{RecId}
use Rattle.km_record.specs.declared.record.Record.{Record}
use Rattle.km_record.specs.Records.{block_of, scanned_from}
use Rattle.km_model.specs.Blocks.{Block, is_scanned, scanned_words}
use Rattle.km_model.specs.Scan.{behind, first_in, first_word, live_words, or_else, place_in, word_above}
use Rattle.km_state.specs.State.{blocks_in, is_white_now}
use Rattle.km_tasks.specs.Roll.{Roll}
use Rattle.km_track.specs.Tracker.{AreRising, Live, Tracker, is_id, is_live, live_with, tracked_in, tracked_of}
use Rattle.km_track.proofs.Lives.{found_block, found_its, is_its}
use Rattle.km_scan.specs.declared.places.At.{At}
use Rattle.km_scan.specs.declared.places.At.TheVariants.{Block as InBlock}
use Rattle.km_scan.specs.declared.places.Pass.{Pass}
use Rattle.km_scan.specs.declared.places.Pass.TheVariants.{First, Sums, Second}
use Rattle.km_scan.specs.Places.{phase_of}
use Rattle.km_scan.specs.Stand.{FitsAt, FitsDue, IsHeldIn, IsWordOf}
use Rattle.km_scan.proofs.Words.{found_behind, found_first}

-- holders of the grey passes

-- what is found is there, and what is there is found
pub found_any : {A : Type 0} (test : A → Bool) (ls : List A) (l : A) → find test ls ≡ Some l → list_any test ls ≡ true
found_any test [] l e = absurd (let z : ⊥ = cc in z)
found_any test (x ∷ ls) l e =
    elim (test x) as (λ b. cond b (Some x) (find test ls) ≡ Some l → (b || list_any test ls) ≡ true) [
      | true ↦ λ _. refl
      | false ↦ λ f. found_any test ls l f
    ] e

pub any_found : {A : Type 0} (test : A → Bool) (ls : List A) → list_any test ls ≡ true → (l : A) × (find test ls ≡ Some l)
any_found test [] e = absurd (let z : ⊥ = cc in z)
any_found test (x ∷ ls) e =
    elim (test x) as (λ b. (b || list_any test ls) ≡ true → (l : _) × (cond b (Some x) (find test ls) ≡ Some l)) [
      | true ↦ λ _. (x, refl)
      | false ↦ λ f. any_found test ls f
    ] e

pub live_is : (id : RecId) (t : Tracker) (l : Live) → live_with id t ≡ Some l → is_live id t ≡ true
live_is id t l e = found_any (is_id id) t.live l e

-- the words of a live block
pub words_live : (t : Tracker) (id : RecId) (l : Live) → AreRising 0 t.live t.registered → live_with id t ≡ Some l → live_words (blocks_in (tracked_in t)) id.generation ≡ scanned_words l.tracked.block
words_live t id l r e = ap (λ (o : Option Block). elim o [ None ↦ [] | Some b ↦ scanned_words b ]) (found_block id 0 t.registered t.live l r e)

-- the scanned word behind a word
pub word_is : (t : Tracker) (id : RecId) (l : Live) (w i from : ℕ) → AreRising 0 t.live t.registered → live_with id t ≡ Some l → w ≡ l.tracked.block.start + 8 * i → from ≡ i + 1
    → scanned_from (l.tracked.block.start + 8 * from) l.tracked.block ≡ word_above w (live_words (blocks_in (tracked_in t)) id.generation)
word_is t id l w i from r e is f =
    let b = l.tracked.block in
    let at : b.start + 8 * from ≡ w + 8 = omega (arith, is, f) in
    ap (λ a. scanned_from a b) at ∙ found_behind (is_scanned b) (b.size / 8) w b.start i 0 (omega (arith, is)) ∙ sym (ap (word_above w) (words_live t id l r e))

-- a place in a grey pass is one that can be due
pub due_is : (stacks : Bool) (pass : Pass) (id : RecId) (word : Addr) (t : Tracker) (roll : Roll) → (pass ≡ Sums → ⊥) → FitsAt stacks (InBlock pass id word) t roll → FitsDue stacks (Some (InBlock pass id word)) t roll
due_is stacks First id word t roll ne f = f
due_is stacks Sums id word t roll ne f = absurd (ne refl)
due_is stacks Second id word t roll ne f = f

pub held_is : (pass : Pass) (l : Live) (t : Tracker) → (is_white_now l.tracked ≡ false) × (is_in l.tracked.block.id t.queue ≡ false) → IsHeldIn pass l t
held_is First l t h = h
held_is Sums l t h = tt
held_is Second l t h = h

-- blocks without a scanned word are taken out of the queue
pub record Taking (pass : Pass) (old now : Tracker) : Type 0 where
  pub others : now ≡ record old { queue = now.queue }
  pub same : first_in (phase_of pass) (blocks_in (tracked_in old)) now.queue ≡ first_in (phase_of pass) (blocks_in (tracked_in old)) old.queue
  pub rest : (n : ℕ) → is_in n now.queue ≡ true → behind n old.queue ≡ behind n now.queue

-- the head of the queue
head_is : (q : List ℕ) (n : ℕ) → Some n ≡ first_of q → q ≡ n ∷ drop 1 q
head_is [] n e = absurd (let z : ⊥ = cc in z)
head_is (m ∷ q) n e = let same : n ≡ m = cc in ap (λ k. k ∷ q) (sym same)

first_cons : (t : Tracker) (pass : Pass) (id : RecId) (l : Live) (o : Option ℕ) (q : List ℕ) → AreRising 0 t.live t.registered → live_with id t ≡ Some l → o ≡ scanned_from (l.tracked.block.start + 8 * 0) l.tracked.block
    → first_in (phase_of pass) (blocks_in (tracked_in t)) (id.generation ∷ q) ≡ or_else (place_in (phase_of pass) id.generation o) (first_in (phase_of pass) (blocks_in (tracked_in t)) q)
first_cons t pass id l o q r e s =
    let b = l.tracked.block in
    let words = ap first_word (words_live t id l r e) ∙ sym (found_first (is_scanned b) (b.size / 8) b.start b.start (omega arith)) ∙ ap (λ a. scanned_from a b) (let z : b.start ≡ b.start + 8 * 0 = omega arith in z) ∙ sym s in
    ap (λ w. or_else (place_in (phase_of pass) id.generation w) (first_in (phase_of pass) (blocks_in (tracked_in t)) q)) words

-- the scanned word behind a word of a live block, as it is looked for
pub behind_is : (t : Tracker) (id : RecId) (l : Live) (w phase : ℕ) (o : Option ℕ) → AreRising 0 t.live t.registered → live_with id t ≡ Some l → (k : Live) × (live_with id t ≡ Some k) × IsWordOf k.tracked.block w
    → o ≡ scanned_from (l.tracked.block.start + 8 * ((w - l.tracked.block.start) / 8 + 1)) l.tracked.block
    → place_in phase id.generation o ≡ place_in phase id.generation (word_above w (live_words (blocks_in (tracked_in t)) id.generation))
behind_is t id l w phase o r e h s =
    let other = h.1 in
    let same : h.0 ≡ l = cc in
    let is = subst (λ (k : Live). IsWordOf k.tracked.block w) same h.2 in
    let at = is.2 in
    ap (place_in phase id.generation) (s ∙ word_is t id l w is.0 ((w - l.tracked.block.start) / 8 + 1) r e is.2 (omega (arith, at)))

-- a word of a record is one of its live block
pub word_in : (o : Option Addr) (id : RecId) (t : Tracker) (r : Record) → Some (record { slot = id.slot; tracked = tracked_of id.generation r }) ≡ live_with id t → IfSome o (λ (a : Addr). (n : ℕ) → IsWordOf (block_of n r) a.0)
    → IfSome o (λ (a : Addr). (l : Live) → live_with id t ≡ Some l → IsWordOf l.tracked.block a.0)
word_in None id t r e w = tt
word_in (Some a) id t r e w = λ l f.
    let k : Live = record { slot = id.slot; tracked = tracked_of id.generation r } in
    let there : Some k ≡ Some l = e ∙ f in
    let same : k ≡ l = cc in
    subst (λ (x : Live). IsWordOf x.tracked.block a.0) same (w id.generation)

-- the block of a place in a grey pass stays, with another of its words
pub held_word : (stacks : Bool) (pass : Pass) (id : RecId) (word next : Addr) (t : Tracker) (roll : Roll) (l : Live) → FitsAt stacks (InBlock pass id word) t roll → live_with id t ≡ Some l → IsWordOf l.tracked.block next.0 → FitsAt stacks (InBlock pass id next) t roll
held_word stacks pass id word next t roll l f e w =
    let there = f.1 in
    let same : l ≡ f.0 = cc in
    (f.0, f.1, subst (λ (k : Live). IsWordOf k.tracked.block next.0) same w, f.3)

-- nothing is due where no place is
pub due_none : (stacks : Bool) (o : Option At) (t : Tracker) (roll : Roll) → o ≡ None → FitsDue stacks o t roll
due_none stacks o t roll e = subst (λ (p : Option At). FitsDue stacks p t roll) (sym e) tt

-- the head of the queue was taken out
pub record Popped (old now after : Tracker) (id : RecId) : Type 0 where
  pub queue : now.queue ≡ id.generation ∷ drop 1 now.queue
  pub live : is_live id after ≡ true
  pub grey : (l : Live) → live_with id after ≡ Some l → is_white_now l.tracked ≡ false
  pub once : is_in id.generation (drop 1 now.queue) ≡ false
  pub is : after ≡ record old { queue = drop 1 now.queue }

pub popped_is : (pass : Pass) (old now after : Tracker) (id : RecId) → Taking pass old now → Some id.generation ≡ first_of now.queue → is_live id now ≡ true → ((l : Live) → live_with id now ≡ Some l → is_white_now l.tracked ≡ false)
    → is_in id.generation (drop 1 now.queue) ≡ false → after ≡ record now { queue = drop 1 now.queue } → Popped old now after id
popped_is pass old now after id w head live grey once rest =
    let same = ap (λ (t : Tracker). t.live) rest in
    record {
      queue = head_is now.queue id.generation head;
      live = ap (list_any (is_id id)) same ∙ live;
      grey = λ l e. grey l (sym (ap (find (is_id id)) same) ∙ e);
      once = once;
      is = rest ∙ ap (λ (t : Tracker). record t { queue = drop 1 now.queue }) w.others;
    }

first_is : (pass : Pass) (old now after : Tracker) (id : RecId) (w : Taking pass old now) (p : Popped old now after id) (o : Option ℕ) → AreRising 0 after.live after.registered
    → ((l : Live) → live_with id after ≡ Some l → o ≡ scanned_from (l.tracked.block.start + 8 * 0) l.tracked.block)
    → first_in (phase_of pass) (blocks_in (tracked_in old)) old.queue ≡ or_else (place_in (phase_of pass) id.generation o) (first_in (phase_of pass) (blocks_in (tracked_in old)) (drop 1 now.queue))
first_is pass old now after id w p o r s =
    let l = any_found (is_id id) after.live p.live in
    let there : tracked_in after ≡ tracked_in old = ap tracked_in p.is in
    sym w.same ∙ ap (first_in (phase_of pass) (blocks_in (tracked_in old))) p.queue
    ∙ subst (λ ts. first_in (phase_of pass) (blocks_in ts) (id.generation ∷ drop 1 now.queue) ≡ or_else (place_in (phase_of pass) id.generation o) (first_in (phase_of pass) (blocks_in ts) (drop 1 now.queue))) there
    (first_cons after pass id l.0 o (drop 1 now.queue) r l.1 (s l.0 l.1))

behind_cons : (n m : ℕ) (q : List ℕ) → is_in m q ≡ false → is_in n q ≡ true → (is_in n (m ∷ q) ≡ true) × (behind n (m ∷ q) ≡ behind n q)
behind_cons n m q out h =
    elim (m == n) as (λ b. (m == n) ≡ b → ((b || is_in n q) ≡ true) × ((if b then q else behind n q) ≡ behind n q)) [
      | true ↦ λ e. absurd (let same = eqb-true m n e in let f = subst (λ k. is_in k q ≡ false) same out in let z : ⊥ = cc in z)
      | false ↦ λ e. (h, refl)
    ] refl

-- it has no scanned word, and is passed by
pub take_passes : (pass : Pass) (old now after : Tracker) (id : RecId) (w : Taking pass old now) (p : Popped old now after id) → AreRising 0 after.live after.registered
    → ((l : Live) → live_with id after ≡ Some l → None ≡ scanned_from (l.tracked.block.start + 8 * 0) l.tracked.block) → Taking pass old after
take_passes pass old now after id w p r s =
    let queue = ap (λ (t : Tracker). t.queue) p.is in
    record {
      others = p.is ∙ ap (λ q. record old { queue = q }) (sym queue);
      same = ap (first_in (phase_of pass) (blocks_in (tracked_in old))) queue ∙ sym (first_is pass old now after id w p None r s);
      rest = λ n h.
          let b = behind_cons n id.generation (drop 1 now.queue) p.once (sym (ap (is_in n) queue) ∙ h) in
          w.rest n (ap (is_in n) p.queue ∙ b.0) ∙ ap (behind n) p.queue ∙ b.1 ∙ sym (ap (behind n) queue);
    }

-- it has one, and is held
pub take_finds : (pass : Pass) (old now after : Tracker) (id : RecId) (a : ℕ) (w : Taking pass old now) (p : Popped old now after id) → AreRising 0 after.live after.registered
    → ((l : Live) → live_with id after ≡ Some l → Some a ≡ scanned_from (l.tracked.block.start + 8 * 0) l.tracked.block)
    → Some (record { phase = phase_of pass; holder = id.generation; word = a }) ≡ first_in (phase_of pass) (blocks_in (tracked_in old)) old.queue
take_finds pass old now after id a w p r s = sym (first_is pass old now after id w p (Some a) r s)

pub take_holds : (stacks : Bool) (pass : Pass) (old now after : Tracker) (roll : Roll) (id : RecId) (word : Addr) (p : Popped old now after id) → (pass ≡ Sums → ⊥)
    → ((l : Live) → live_with id after ≡ Some l → IsWordOf l.tracked.block word.0) → FitsDue stacks (Some (InBlock pass id word)) after roll
take_holds stacks pass old now after roll id word p ne words =
    let l = any_found (is_id id) after.live p.live in
    let its = (is_its id l.0 (found_its id after.live l.0 l.1)).1 in
    let out = ap (is_in l.0.tracked.block.id) (ap (λ (t : Tracker). t.queue) p.is) ∙ ap (λ n. is_in n (drop 1 now.queue)) its ∙ p.once in
    due_is stacks pass id word after roll ne (l.0, l.1, words l.0 l.1, held_is pass l.0 after (p.grey l.0 l.1, out))

pub take_behind : (pass : Pass) (old now after : Tracker) (id : RecId) (w : Taking pass old now) (p : Popped old now after id) → after ≡ record old { queue = behind id.generation old.queue }
take_behind pass old now after id w p =
    let here : is_in id.generation now.queue ≡ true = ap (is_in id.generation) p.queue ∙ rw (eq-eqb id.generation id.generation refl) refl in
    let left : behind id.generation now.queue ≡ drop 1 now.queue = ap (behind id.generation) p.queue ∙ rw (eq-eqb id.generation id.generation refl) refl in
    p.is ∙ ap (λ q. record old { queue = q }) (sym (w.rest id.generation here ∙ left))
