use Rattle.std.proofs.Common.{◌≡◌, ◌≢◌, ℕ, ◌+◌, ◌<◌, Bool, true, false, ◌||◌, ◌==◌, List, [], ◌∷◌, ◌++◌, map, length, set, Option, Some, None, if◌then◌else◌, not, refl, sym, ap, ◌∙◌, subst, arith, length-set, get_or-set_same, get_or-set_other}
use Rattle.std.proofs.lemmas.Bool.{or_left, or_right, or_parts, eqb-true, eqb-false, eq-eqb, ne_eqb, both_ways}
use Rattle.std.specs.Prelude.{filter}
use Rattle.std.proofs.lemmas.Bool.{le-ltb, or_from}
use Rattle.km_model.specs.Blocks.{needs}
use Rattle.km_state.specs.State.{is_white_now}
use Rattle.km_links.specs.Chains.{is_in, first_of, slot_behind, without, IsDistinct}
use Rattle.km_links.proofs.Distinct.{without_none, out_both}
use Rattle.km_map.specs.declared.entries.Entry.{Entry}
use Rattle.km_record.specs.declared.kinds.Minimum.{Minimum}
use Rattle.km_record.specs.declared.kinds.Minimum.TheVariants.{Black, AtLeast}
use Rattle.km_record.specs.declared.record.Record.{Record}
use Rattle.km_record.specs.Records.{IsSound, block_of}
use Rattle.km_track.specs.declared.slots.Slot.{Slot}
use Rattle.km_track.specs.Slots.{no_record, slot_at, slot_started, started_slots, started_queue, requeued, is_root}
use Rattle.km_track.specs.Tracker.{Live, Tracker, scan_started, tracked_of}
use Rattle.km_track.specs.Holds.{live_at, entry_at, IsAmong, IdsRise, Holds}
use Rattle.km_track.proofs.Writes.{ids_in, map_each, same_sound}
use Rattle.km_track.proofs.Leaves.{in_without}

-- a scan begins

-- the slots from one on
abbrev pub from : Option ℕ → List ℕ → List ℕ
from None ns = []
from (Some n) [] = []
from (Some n) (m ∷ ns) = if m == n then m ∷ ns else from (Some n) ns

pub behind_in : (n k : ℕ) (ns : List ℕ) → slot_behind n ns ≡ Some k → is_in k ns ≡ true
behind_in n k [] h = absurd (let z : ⊥ = cc in z)
behind_in n k (m ∷ ns) h =
    elim (m == n) as (λ b. (if b then first_of ns else slot_behind n ns) ≡ Some k → is_in k (m ∷ ns) ≡ true) [
      | true ↦ λ g. or_right (m == k) _ (head ns g)
      | false ↦ λ g. or_right (m == k) _ (behind_in n k ns g)
    ] h
  where
    head : (xs : List ℕ) → first_of xs ≡ Some k → is_in k xs ≡ true
    head [] g = absurd (let z : ⊥ = cc in z)
    head (x ∷ xs) g = let same : x ≡ k = cc in or_left _ _ (eq-eqb x k same)

from_rest : (o : Option ℕ) (m : ℕ) (ns : List ℕ) → is_in m ns ≡ false → ((k : ℕ) → o ≡ Some k → is_in k ns ≡ true) → from o (m ∷ ns) ≡ from o ns
from_rest None m ns d h = refl
from_rest (Some k) m ns d h = rw (ne_eqb m k (λ e. both_ways (is_in k ns) (subst (λ x. is_in x ns ≡ false) e d) (h k refl))) refl

pub from_first : (ns : List ℕ) → from (first_of ns) ns ≡ ns
from_first [] = refl
from_first (n ∷ ns) = rw (eq-eqb n n refl) refl

first_in : (k : ℕ) (ns : List ℕ) → first_of ns ≡ Some k → is_in k ns ≡ true
first_in k [] g = absurd (let z : ⊥ = cc in z)
first_in k (x ∷ xs) g = let same : x ≡ k = cc in or_left _ _ (eq-eqb x k same)

pub from_next : (n : ℕ) (ns : List ℕ) → IsDistinct ns → is_in n ns ≡ true → from (Some n) ns ≡ n ∷ from (slot_behind n ns) ns
from_next n [] d i = absurd (let z : ⊥ = cc in z)
from_next n (m ∷ ns) d i =
    elim (m == n) as (λ b. (m == n) ≡ b → (b || is_in n ns) ≡ true → (if b then m ∷ ns else from (Some n) ns) ≡ n ∷ from (if b then first_of ns else slot_behind n ns) (m ∷ ns)) [
      | true ↦ λ e _. let same = eqb-true m n e in
          ap (λ x. x ∷ ns) same ∙ ap (λ l. n ∷ l) (sym (from_rest (first_of ns) m ns d.0 (λ k g. first_in k ns g) ∙ from_first ns))
      | false ↦ λ e j. from_next n ns d.1 j ∙ ap (λ l. n ∷ l) (sym (from_rest (slot_behind n ns) m ns d.0 (λ k g. behind_in n k ns g)))
    ] refl i

pub from_step : (o : Option ℕ) (n : ℕ) (ns : List ℕ) → IsDistinct ns → is_in n ns ≡ true → o ≡ Some n → from o ns ≡ n ∷ from (slot_behind n ns) ns
from_step o n ns d i e = ap (λ p. from p ns) e ∙ from_next n ns d i

-- the table

pub started_long : (S : List Slot) (ns : List ℕ) → length (started_slots S ns) ≡ length S
started_long S [] = refl
started_long S (n ∷ ns) = started_long (set S n (slot_started (slot_at S n))) ns ∙ length-set S n (slot_started (slot_at S n))

started_out : (S : List Slot) (ns : List ℕ) (m : ℕ) → is_in m ns ≡ false → slot_at (started_slots S ns) m ≡ slot_at S m
started_out S [] m o = refl
started_out S (n ∷ ns) m o =
    let p = or_parts (n == m) (is_in m ns) o in
    started_out (set S n (slot_started (slot_at S n))) ns m p.1 ∙ get_or-set_other S n m (slot_started (slot_at S n)) no_record (λ e. eqb-false n m p.0 (sym e))

started_in : (S : List Slot) (ns : List ℕ) (m : ℕ) → IsDistinct ns → m < length S → is_in m ns ≡ true → slot_at (started_slots S ns) m ≡ slot_started (slot_at S m)
started_in S [] m d k i = absurd (let z : ⊥ = cc in z)
started_in S (n ∷ ns) m d k i =
    let x = slot_started (slot_at S n) in
    elim (n == m) as (λ b. (n == m) ≡ b → (b || is_in m ns) ≡ true → slot_at (started_slots (set S n x) ns) m ≡ slot_started (slot_at S m)) [
      | true ↦ λ e _.
          let same = eqb-true n m e in
          started_out (set S n x) ns m (subst (λ y. is_in y ns ≡ false) same d.0) ∙ subst (λ y. slot_at (set S n x) y ≡ slot_started (slot_at S y)) same (get_or-set_same S n x no_record (subst (λ y. y < length S) (sym same) k))
      | false ↦ λ e j. started_in (set S n x) ns m d.1 (omega (arith, k, length-set S n x)) j ∙ ap slot_started (get_or-set_other S n m x no_record (λ u. eqb-false n m e (sym u)))
    ] refl i

-- the queue

root_same : (S : List Slot) (n m : ℕ) → n < length S → is_root (set S n (slot_started (slot_at S n))) m ≡ is_root S m
root_same S n m k =
    let x = slot_started (slot_at S n) in
    elim (m == n) as (λ b. (m == n) ≡ b → is_root (set S n x) m ≡ is_root S m) [
      | true ↦ λ e. subst (λ y. is_root (set S n x) y ≡ is_root S y) (sym (eqb-true m n e)) (ap (λ (y : Slot). needs 0 (block_of 0 y.«record»)) (get_or-set_same S n x no_record k))
      | false ↦ λ e. ap (λ (y : Slot). needs 0 (block_of 0 y.«record»)) (get_or-set_other S n m x no_record (eqb-false m n e))
    ] refl

no_members : (a : List ℕ) → ((m : ℕ) → is_in m a ≡ true → ⊥) → a ≡ []
no_members [] h = refl
no_members (n ∷ a) h = absurd (h n (or_left _ _ (eq-eqb n n refl)))

to_end : (b : List ℕ) → b ≡ b ++ []
to_end [] = refl
to_end (n ∷ b) = ap (λ l. n ∷ l) (to_end b)

joined : (a b c : List ℕ) → (a ++ b) ++ c ≡ a ++ (b ++ c)
joined [] b c = refl
joined (n ∷ a) b c = ap (λ l. n ∷ l) (joined a b c)

without_both : (n : ℕ) (a b : List ℕ) → is_in n b ≡ false → without n (a ++ b) ≡ without n a ++ b
without_both n [] b o = without_none n b o
without_both n (m ∷ a) b o =
    elim (m == n) as (λ t. (if not t then m ∷ without n (a ++ b) else without n (a ++ b)) ≡ (if not t then m ∷ without n a else without n a) ++ b) [
      | true ↦ without_both n a b o
      | false ↦ ap (λ l. m ∷ l) (without_both n a b o)
    ]

behind_head : (n m : ℕ) (ns : List ℕ) → is_in m (n ∷ ns) ≡ true → m ≢ n → is_in m ns ≡ true
behind_head n m ns i ne = elim (n == m) as (λ b. (n == m) ≡ b → (b || is_in m ns) ≡ true → is_in m ns ≡ true) [ true ↦ λ e _. absurd (ne (sym (eqb-true n m e))) | false ↦ λ _ j. j ] refl i

queue_of : (S : List Slot) (q : ℕ → Bool) (a b ns : List ℕ) → ((m : ℕ) → is_root S m ≡ q m) → ((m : ℕ) → is_in m ns ≡ true → m < length S) → IsDistinct ns
    → ((m : ℕ) → is_in m a ≡ true → is_in m ns ≡ true) → ((m : ℕ) → is_in m ns ≡ true → is_in m b ≡ false) → started_queue S (a ++ b) ns ≡ b ++ filter q ns
queue_of S q a b [] r w d i o = ap (λ l. l ++ b) (no_members a (λ m j. let u = i m j in let z : ⊥ = cc in z)) ∙ to_end b
queue_of S q a b (n ∷ ns) r w d i o =
    let x = slot_started (slot_at S n) in
    let first : is_in n (n ∷ ns) ≡ true = or_left _ _ (eq-eqb n n refl) in
    let rest : (m : ℕ) → is_in m ns ≡ true → is_in m (n ∷ ns) ≡ true = λ m j. or_right (n == m) _ j in
    let roots : (m : ℕ) → is_root (set S n x) m ≡ q m = λ m. root_same S n m (w n first) ∙ r m in
    let within : (m : ℕ) → is_in m ns ≡ true → m < length (set S n x) = λ m j. omega (arith, w m (rest m j), length-set S n x) in
    let fewer : (m : ℕ) → is_in m (without n a) ≡ true → is_in m ns ≡ true = λ m j. let p = in_without n m a j in behind_head n m ns (i m p.0) p.1 in
    let cut : without n (a ++ b) ≡ without n a ++ b = without_both n a b (o n first) in
    ap (λ t. started_queue (set S n x) (requeued t n (a ++ b)) ns) (r n) ∙
    elim (q n) as (λ t. started_queue (set S n x) (requeued t n (a ++ b)) ns ≡ b ++ (if t then n ∷ filter q ns else filter q ns)) [
      | true ↦
          ap (λ l. started_queue (set S n x) l ns) (ap (λ l. l ++ n ∷ []) cut ∙ joined (without n a) b (n ∷ [])) ∙
          (queue_of (set S n x) q (without n a) (b ++ n ∷ []) ns roots within d.1 fewer (λ m j. out_both m b (n ∷ []) (o m (rest m j)) (or_from _ _ (ne_eqb n m (λ e. both_ways (is_in n ns) d.0 (subst (λ y. is_in y ns ≡ true) (sym e) j))) refl)) ∙ joined b (n ∷ []) (filter q ns))
      | false ↦ ap (λ l. started_queue (set S n x) l ns) cut ∙ queue_of (set S n x) q (without n a) b ns roots within d.1 fewer (λ m j. o m (rest m j))
    ]

in_filter : (q : ℕ → Bool) (m : ℕ) (ns : List ℕ) → is_in m (filter q ns) ≡ true → (is_in m ns ≡ true) × (q m ≡ true)
in_filter q m [] i = absurd (let z : ⊥ = cc in z)
in_filter q m (n ∷ ns) i =
    elim (q n) as (λ t. q n ≡ t → is_in m (if t then n ∷ filter q ns else filter q ns) ≡ true → (is_in m (n ∷ ns) ≡ true) × (q m ≡ true)) [
      | true ↦ λ t j. elim (n == m) as (λ b. (n == m) ≡ b → (b || is_in m (filter q ns)) ≡ true → ((b || is_in m ns) ≡ true) × (q m ≡ true)) [
        | true ↦ λ e _. (refl, subst (λ y. q y ≡ true) (eqb-true n m e) t)
        | false ↦ λ _ k. in_filter q m ns k
      ] refl j
      | false ↦ λ _ j. let p = in_filter q m ns j in (or_right (n == m) _ p.0, p.1)
    ] refl i

out_filter : (q : ℕ → Bool) (m : ℕ) (ns : List ℕ) → is_in m ns ≡ false → is_in m (filter q ns) ≡ false
out_filter q m ns o = elim (is_in m (filter q ns)) as (λ b. is_in m (filter q ns) ≡ b → b ≡ false) [ true ↦ λ e. absurd (both_ways (is_in m ns) o (in_filter q m ns e).0) | false ↦ λ _. refl ] refl

distinct_filter : (q : ℕ → Bool) (ns : List ℕ) → IsDistinct ns → IsDistinct (filter q ns)
distinct_filter q [] d = tt
distinct_filter q (n ∷ ns) d = elim (q n) as (λ t. IsDistinct (if t then n ∷ filter q ns else filter q ns)) [ true ↦ (out_filter q n ns d.0, distinct_filter q ns d.1) | false ↦ distinct_filter q ns d.1 ]

-- the tracker

root_dark : (m : Minimum) (r : Record) → r.minimum ≡ m → needs 0 (block_of 0 r) ≡ true → is_white_now (tracked_of 0 (record r { count = 0 })) ≡ false
root_dark Black r e h = rw e refl
root_dark (AtLeast n) r e h = rw e (le-ltb 0 n (omega (arith, eqb-true n 0 (rw e at h))))

rise_in : (S T : List Slot) (low : ℕ) (ns : List ℕ) (high : ℕ) → ((m : ℕ) → is_in m ns ≡ true → (slot_at T m).generation ≡ (slot_at S m).generation) → IdsRise S low ns high → IdsRise T low ns high
rise_in S T low [] high h r = r
rise_in S T low (m ∷ ns) high h r = rw (h m (or_left _ _ (eq-eqb m m refl))) (r.0, rise_in S T ((slot_at S m).generation + 1) ns high (λ k j. h k (or_right (m == k) _ j)) r.1)

ids_root : (S T : List Slot) (ns : List ℕ) → ((m : ℕ) → is_in m ns ≡ true → (slot_at T m).generation ≡ (slot_at S m).generation)
    → ids_in T (filter (is_root S) ns) ≡ map (λ (l : Live). l.tracked.block.id) (filter (λ (l : Live). needs 0 l.tracked.block) (map (live_at S) ns))
ids_root S T [] h = refl
ids_root S T (n ∷ ns) h =
    let tail = ids_root S T ns (λ m j. h m (or_right (n == m) _ j)) in
    let ls = filter (λ (l : Live). needs 0 l.tracked.block) (map (live_at S) ns) in
    elim (is_root S n) as (λ t. ids_in T (if t then n ∷ filter (is_root S) ns else filter (is_root S) ns) ≡ map (λ (l : Live). l.tracked.block.id) (if t then live_at S n ∷ ls else ls)) [
      | true ↦ rw (h n (or_left _ _ (eq-eqb n n refl)), tail) refl
      | false ↦ tail
    ]

-- what stands when a scan begins
pub record Begun (S T : List Slot) (order grey free : List ℕ) (es : List Entry) (reg spare : ℕ) : Type 0 where
  pub holds : Holds T order (started_queue S grey order) free es reg
  pub seen : ◌≡◌ {A = Tracker} (record { live = map (live_at T) order; queue = ids_in T (started_queue S grey order); registered = reg; spare = spare }) (scan_started (record { live = map (live_at S) order; queue = ids_in S grey; registered = reg; spare = spare }))
  pub long : length T ≡ length S

pub begun : (S T : List Slot) (order grey free : List ℕ) (es : List Entry) (reg spare : ℕ) → Holds S order grey free es reg → T ≡ started_slots S order → Begun S T order grey free es reg spare
begun S T order grey free es reg spare h e =
    let long : length T ≡ length S = ap length e ∙ started_long S order in
    let same : (m : ℕ) → is_in m order ≡ true → slot_at T m ≡ slot_started (slot_at S m) = λ m j. ap (λ l. slot_at l m) e ∙ started_in S order m h.orders (h.within m j) j in
    let gens : (m : ℕ) → is_in m order ≡ true → (slot_at T m).generation ≡ (slot_at S m).generation = λ m j. ap (λ (y : Slot). y.generation) (same m j) in
    let entry : (m : ℕ) → is_in m order ≡ true → entry_at T m ≡ entry_at S m = λ m j. ap (λ (y : Slot). record { span = y.«record».span; slot = m }) (same m j) in
    let queue : started_queue S grey order ≡ filter (is_root S) order = ap (λ l. started_queue S l order) (to_end grey) ∙ queue_of S (is_root S) grey [] order (λ m. refl) h.within h.orders (λ m j. (h.queued m j).0) (λ m j. refl) in
    let lives : map (live_at T) order ≡ map (λ (l : Live). record l { tracked = record l.tracked { count = 0 } }) (map (live_at S) order) = map_each S T (λ (l : Live). record l { tracked = record l.tracked { count = 0 } }) order (λ m j. ap (λ (y : Slot). record { slot = m; tracked = tracked_of y.generation y.«record» }) (same m j)) in
    let ids = ap (ids_in T) queue ∙ ids_root S T order gens in
    record {
      holds = subst (λ g. Holds T order g free es reg) (sym queue) (record {
        orders = h.orders;
        greys = distinct_filter (is_root S) order h.orders;
        within = λ m j. omega (arith, long, h.within m j);
        freed = λ m j. let f = h.freed m j in (omega (arith, long, f.0), f.1);
        count = h.count ∙ sym long;
        queued = λ m j. let p = in_filter (is_root S) m order j in (p.0, ap (λ (y : Slot). is_white_now (tracked_of y.generation y.«record»)) (same m p.0) ∙ root_dark (slot_at S m).«record».minimum (slot_at S m).«record» refl p.1);
        kept = λ m j. subst (λ y. IsAmong es y) (sym (entry m j)) (h.kept m j);
        known = λ y a. let k = h.known y a in (k.0, k.1 ∙ sym (entry y.slot k.0));
        rising = h.rising;
        ids = rise_in S T 0 order reg gens h.ids;
        sound = λ m j. subst (λ (y : Slot). IsSound y.«record») (sym (same m j)) (same_sound (slot_at S m).«record» _ refl refl (λ q. q) (h.sound m j));
      });
      seen = λ i. record { live = lives i; queue = ids i; registered = reg; spare = spare };
      long = long;
    }
