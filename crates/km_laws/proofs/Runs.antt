use Rattle.std.proofs.Common.{◌≡◌, ℕ, suc, ◌+◌, ◌*◌, ◌<◌, ◌≤◌, true, false, ◌==◌, List, [], ◌∷◌, if◌then◌else◌, refl, sym, subst, arith, ◌⊎◌, inl, inr, eq-eqb, ne_eqb}
use Rattle.std.proofs.lemmas.Bool.{and_left, and_right, and_from}
use Rattle.km_model.specs.Blocks.{Block}
use Rattle.km_model.specs.Tasks.{Task}
use Rattle.km_model.specs.Past.{ScanLoad}
use Rattle.km_model.specs.Scan.{behind, phase_of}
use Rattle.km_laws.specs.Left.{is_made, made}
use Rattle.km_laws.proofs.Lists.{Each, each_push, each_filter, each_map, In, Rising, rising_push, rising_filter, rising_map}
use Rattle.km_model.proofs.Worlds.{Tame, Closed}
pub use Rattle.km_model.proofs.Places.{newest}
use Rattle.km_laws.proofs.Queues.{Distinct}
use Rattle.km_model.proofs.Whites.{white_in, grey_tame}

-- one more load is counted for its phase and holder alone
pub made_same : (p x : ℕ) (l : ScanLoad) (ls : List ScanLoad) → l.place.phase ≡ p → l.place.holder ≡ x → made p x (l ∷ ls) ≡ suc (made p x ls)
made_same p x l ls e f =
    subst (λ q. (if q then suc (made p x ls) else made p x ls) ≡ suc (made p x ls))
    (sym (and_from (l.place.phase == p) (l.place.holder == x) (eq-eqb l.place.phase p e) (eq-eqb l.place.holder x f))) refl

pub made_phase : (p x : ℕ) (l : ScanLoad) (ls : List ScanLoad) → (l.place.phase ≡ p → ⊥) → made p x (l ∷ ls) ≡ made p x ls
made_phase p x l ls e =
    subst (λ q. (if q then suc (made p x ls) else made p x ls) ≡ made p x ls)
    (sym (and_left (l.place.phase == p) (l.place.holder == x) (ne_eqb l.place.phase p e))) refl

pub made_holder : (p x : ℕ) (l : ScanLoad) (ls : List ScanLoad) → (l.place.holder ≡ x → ⊥) → made p x (l ∷ ls) ≡ made p x ls
made_holder p x l ls e =
    subst (λ q. (if q then suc (made p x ls) else made p x ls) ≡ made p x ls)
    (sym (and_right (l.place.phase == p) (l.place.holder == x) (ne_eqb l.place.holder x e))) refl

pub made_more : (p x : ℕ) (l : ScanLoad) (ls : List ScanLoad) → (made p x (l ∷ ls) ≡ made p x ls) ⊎ (made p x (l ∷ ls) ≡ suc (made p x ls))
made_more p x l ls =
    elim (is_made p x l) as (λ q. ((if q then suc (made p x ls) else made p x ls) ≡ made p x ls) ⊎ ((if q then suc (made p x ls) else made p x ls) ≡ suc (made p x ls))) [
      | true ↦ inr refl
      | false ↦ inl refl
    ]

-- what isn't loaded yet, by the newest load
abbrev pub Ahead : List ℕ → List ℕ → List ScanLoad → Type 0
Ahead q1 q2 [] = Unit {0}
Ahead q1 q2 (l ∷ ls) =
    (l.place.phase ≡ 1 → (x : ℕ) → l.place.holder < x → made 1 x (l ∷ ls) ≡ 0)
    × (l.place.phase ≡ 2 → In l.place.holder q1 × ((x : ℕ) → In x (behind l.place.holder q1) → made 2 x (l ∷ ls) ≡ 0))
    × (l.place.phase ≡ 3 → (x : ℕ) → l.place.holder < x → made 3 x (l ∷ ls) ≡ 0)
    × (l.place.phase ≡ 4 → In l.place.holder q2 × ((x : ℕ) → In x (behind l.place.holder q2) → made 4 x (l ∷ ls) ≡ 0))

-- the order of the loads of a scan, with its two queues
pub record Order (q1 q2 : List ℕ) (ls : List ScanLoad) : Type 0 where
  pub low : 1 ≤ phase_of (newest ls)
  pub high : phase_of (newest ls) ≤ 4
  pub above : (p x : ℕ) → phase_of (newest ls) < p → made p x ls ≡ 0
  pub once1 : Distinct q1
  pub once2 : Distinct q2
  pub apart : (x : ℕ) → In x q1 → In x q2 → ⊥
  pub from1 : (x : ℕ) → (In x q1 → ⊥) → made 2 x ls ≡ 0
  pub from2 : (x : ℕ) → (In x q2 → ⊥) → made 4 x ls ≡ 0
  pub ahead : Ahead q1 q2 ls

-- the holder of the newest load was registered, or its task started
abbrev pub HeadGiven : List ScanLoad → ℕ → ℕ → Type 0
HeadGiven [] r s = Unit {0}
HeadGiven (l ∷ ls) r s = (l.place.phase ≡ 1 → l.place.holder ≤ s) × ((l.place.phase ≡ 1 → ⊥) → l.place.holder < r)

-- the words of the newest holder were loaded up to the newest
abbrev pub HeadBlock : List ScanLoad → Block → Type 0
HeadBlock [] b = Unit {0}
HeadBlock (l ∷ ls) b =
    (l.place.holder ≡ b.id → l.place.phase ≡ 2 → b.start + 8 * (made 2 b.id (l ∷ ls) + made 4 b.id (l ∷ ls)) ≤ l.place.word + 8)
    × (l.place.holder ≡ b.id → l.place.phase ≡ 3 → b.start + 8 * made 3 b.id (l ∷ ls) ≤ l.place.word + 8)
    × (l.place.holder ≡ b.id → l.place.phase ≡ 4 → b.start + 8 * (made 2 b.id (l ∷ ls) + made 4 b.id (l ∷ ls)) ≤ l.place.word + 8)

abbrev pub HeadTask : List ScanLoad → Task → Type 0
HeadTask [] t = Unit {0}
HeadTask (l ∷ ls) t = l.place.holder ≡ t.number → l.place.phase ≡ 1 → t.stack + 8 * made 1 t.number (l ∷ ls) ≤ l.place.word + 8

-- a queued block isn't white
abbrev pub QueuedGrey : List ℕ → List ℕ → List ScanLoad → Block → Type 0
QueuedGrey q1 q2 ls b = (In b.id q1 → white_in ls b ≡ false) × (In b.id q2 → white_in ls b ≡ false)

-- what stands fits the loads
pub record Stands (q1 q2 : List ℕ) (ls : List ScanLoad) (r : ℕ) (bs : List Block) (s : ℕ) (ts : List Task) : Type 0 where
  pub blocks_rise : Rising (λ (b : Block). b.id) 0 bs r
  pub tasks_rise : Rising (λ (t : Task). t.number) 0 ts (s + 1)
  pub given1 : (x : ℕ) → In x q1 → x < r
  pub given2 : (x : ℕ) → In x q2 → x < r
  pub queued : Each (QueuedGrey q1 q2 ls) bs
  pub head_given : HeadGiven ls r s
  pub head_block : Each (HeadBlock ls) bs
  pub head_task : Each (HeadTask ls) ts

given_more : (ls : List ScanLoad) (r r' s s' : ℕ) → r ≤ r' → s ≤ s' → HeadGiven ls r s → HeadGiven ls r' s'
given_more [] r r' s s' a b h = tt
given_more (l ∷ ls) r r' s s' a b h = ((λ e. let k = h.0 e in omega (arith, k, b)), (λ e. let k = h.1 e in omega (arith, k, a)))

new_block : (ls : List ScanLoad) (r s : ℕ) (b : Block) → b.id ≡ r → HeadGiven ls r s → HeadBlock ls b
new_block [] r s b e h = tt
new_block (l ∷ ls) r s b e h = (
  (λ f p. absurd (let k = h.1 (λ q. omega (arith, p, q)) in omega (arith, e, f, k))),
  (λ f p. absurd (let k = h.1 (λ q. omega (arith, p, q)) in omega (arith, e, f, k))),
  (λ f p. absurd (let k = h.1 (λ q. omega (arith, p, q)) in omega (arith, e, f, k))),
)

new_task : (ls : List ScanLoad) (r s : ℕ) (t : Task) → t.number ≡ s + 1 → HeadGiven ls r s → HeadTask ls t
new_task [] r s t e h = tt
new_task (l ∷ ls) r s t e h = λ f p. absurd (let k = h.0 p in omega (arith, e, f, k))

head_tame : (ls : List ScanLoad) (b c : Block) → Tame b c → HeadBlock ls b → HeadBlock ls c
head_tame [] b c t h = tt
head_tame (l ∷ ls) b c t h =
    let P : ℕ → ℕ → Type 0 = λ id start.
    (l.place.holder ≡ id → l.place.phase ≡ 2 → start + 8 * (made 2 id (l ∷ ls) + made 4 id (l ∷ ls)) ≤ l.place.word + 8)
    × (l.place.holder ≡ id → l.place.phase ≡ 3 → start + 8 * made 3 id (l ∷ ls) ≤ l.place.word + 8)
    × (l.place.holder ≡ id → l.place.phase ≡ 4 → start + 8 * (made 2 id (l ∷ ls) + made 4 id (l ∷ ls)) ≤ l.place.word + 8) in
    subst (λ id. P id c.start) (sym t.0) (subst (λ start. P b.id start) (sym t.1) h)

task_same : (ls : List ScanLoad) (t u : Task) → u.number ≡ t.number → u.stack ≡ t.stack → HeadTask ls t → HeadTask ls u
task_same [] t u e f h = tt
task_same (l ∷ ls) t u e f h =
    let P : ℕ → ℕ → Type 0 = λ n stack. l.place.holder ≡ n → l.place.phase ≡ 1 → stack + 8 * made 1 n (l ∷ ls) ≤ l.place.word + 8 in
    subst (λ n. P n u.stack) (sym e) (subst (λ k. P t.number k) (sym f) h)

queued_tame : (q1 q2 : List ℕ) (ls : List ScanLoad) (b c : Block) → Tame b c → QueuedGrey q1 q2 ls b → QueuedGrey q1 q2 ls c
queued_tame q1 q2 ls b c t h =
    ((λ i. grey_tame ls b c t (h.0 (subst (λ n. In n q1) t.0 i))), (λ i. grey_tame ls b c t (h.1 (subst (λ n. In n q2) t.0 i))))

-- no event but a begin or a load of a scan makes it false
pub stands_closed : (q1 q2 : List ℕ) (ls : List ScanLoad) → Closed (λ r bs s ts. Stands q1 q2 ls r bs s ts)
stands_closed q1 q2 ls = record {
  registered = λ r s bs ts b e h. record {
    blocks_rise = rising_push (λ (b : Block). b.id) bs 0 r b e h.blocks_rise;
    tasks_rise = h.tasks_rise;
    given1 = λ x i. let k = h.given1 x i in omega (arith, k);
    given2 = λ x i. let k = h.given2 x i in omega (arith, k);
    queued = each_push (QueuedGrey q1 q2 ls) bs b h.queued
        ((λ i. absurd (let k = h.given1 b.id i in omega (arith, k, e))), (λ i. absurd (let k = h.given2 b.id i in omega (arith, k, e))));
    head_given = given_more ls r (r + 1) s s (omega arith) (omega arith) h.head_given;
    head_block = each_push (HeadBlock ls) bs b h.head_block (new_block ls r s b e h.head_given);
    head_task = h.head_task;
  };
  fewer = λ r s bs ts test h. record {
    blocks_rise = rising_filter (λ (b : Block). b.id) test bs 0 r h.blocks_rise;
    tasks_rise = h.tasks_rise;
    given1 = h.given1;
    given2 = h.given2;
    queued = each_filter (QueuedGrey q1 q2 ls) test bs h.queued;
    head_given = h.head_given;
    head_block = each_filter (HeadBlock ls) test bs h.head_block;
    head_task = h.head_task;
  };
  none = λ r s bs ts h. record {
    blocks_rise = omega arith;
    tasks_rise = h.tasks_rise;
    given1 = h.given1;
    given2 = h.given2;
    queued = tt;
    head_given = h.head_given;
    head_block = tt;
    head_task = h.head_task;
  };
  changed = λ r s bs ts change tame h. record {
    blocks_rise = rising_map (λ (b : Block). b.id) change (λ b. (tame b).0) bs 0 r h.blocks_rise;
    tasks_rise = h.tasks_rise;
    given1 = h.given1;
    given2 = h.given2;
    queued = each_map (QueuedGrey q1 q2 ls) (QueuedGrey q1 q2 ls) change (λ b k. queued_tame q1 q2 ls b (change b) (tame b) k) bs h.queued;
    head_given = h.head_given;
    head_block = each_map (HeadBlock ls) (HeadBlock ls) change (λ b k. head_tame ls b (change b) (tame b) k) bs h.head_block;
    head_task = h.head_task;
  };
  started = λ r s bs ts t e h. record {
    blocks_rise = h.blocks_rise;
    tasks_rise = rising_push (λ (t : Task). t.number) ts 0 (s + 1) t e h.tasks_rise;
    given1 = h.given1;
    given2 = h.given2;
    queued = h.queued;
    head_given = given_more ls r r s (s + 1) (omega arith) (omega arith) h.head_given;
    head_block = h.head_block;
    head_task = each_push (HeadTask ls) ts t h.head_task (new_task ls r s t e h.head_given);
  };
  gone = λ r s bs ts test h. record {
    blocks_rise = h.blocks_rise;
    tasks_rise = rising_filter (λ (t : Task). t.number) test ts 0 (s + 1) h.tasks_rise;
    given1 = h.given1;
    given2 = h.given2;
    queued = h.queued;
    head_given = h.head_given;
    head_block = h.head_block;
    head_task = each_filter (HeadTask ls) test ts h.head_task;
  };
  set = λ r s bs ts change same h. record {
    blocks_rise = h.blocks_rise;
    tasks_rise = rising_map (λ (t : Task). t.number) change (λ t. (same t).0) ts 0 (s + 1) h.tasks_rise;
    given1 = h.given1;
    given2 = h.given2;
    queued = h.queued;
    head_given = h.head_given;
    head_block = h.head_block;
    head_task = each_map (HeadTask ls) (HeadTask ls) change (λ t k. task_same ls t (change t) (same t).0 (same t).1 k) ts h.head_task;
  };
}
