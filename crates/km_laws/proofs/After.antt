use Rattle.std.proofs.Common.{◌≡◌, ℕ, suc, ◌+◌, ◌*◌, ◌<◌, ◌≤◌, false, List, [], ◌∷◌, ◌++◌, refl, sym, ap, ◌∙◌, subst, arith, ◌⊎◌, inl, inr}
use Rattle.std.proofs.lemmas.Bool.{cases_eq}
use Rattle.km_model.specs.Blocks.{Block}
use Rattle.km_model.specs.Tasks.{Task}
use Rattle.km_model.specs.Past.{ScanLoad}
use Rattle.km_model.specs.Scan.{behind, phase_of}
use Rattle.km_laws.specs.Left.{made}
use Rattle.km_laws.proofs.Lists.{each_weaker, each_in, in_each, In, rising_in, rising_unique, in_push_cases, in_push_left}
use Rattle.km_laws.proofs.Queues.{not_behind, behind_push, distinct_push}
use Rattle.km_model.proofs.Whites.{white_in, grey_stays}
use Rattle.km_laws.proofs.Runs.{newest, made_same, made_phase, made_holder, Ahead, Order, HeadGiven, HeadBlock, HeadTask, QueuedGrey, Stands}
use Rattle.km_laws.proofs.Loads.{GoodStack, GoodGrey, GoodSum, Good}

-- the order after one more load, by its phase
order_more : (q1 q2 : List ℕ) (l : ScanLoad) (ls : List ScanLoad) → Order q1 q2 ls → 1 ≤ l.place.phase → l.place.phase ≤ 4 → phase_of (newest ls) ≤ l.place.phase
    → (l.place.phase ≡ 2 → In l.place.holder q1) → (l.place.phase ≡ 4 → In l.place.holder q2) → Ahead q1 q2 (l ∷ ls) → Order q1 q2 (l ∷ ls)
order_more q1 q2 l ls o low high le in1 in2 ahead = record {
  low = low;
  high = high;
  above = λ p x lt. made_phase p x l ls (λ e. omega (arith, e, lt)) ∙ o.above p x (omega (arith, lt, le));
  once1 = o.once1;
  once2 = o.once2;
  apart = o.apart;
  from1 = λ x out. elim (cases_eq l.place.phase 2) [
    | inl two ↦ made_holder 2 x l ls (λ e. out (subst (λ n. In n q1) e (in1 two))) ∙ o.from1 x out
    | inr other ↦ made_phase 2 x l ls other ∙ o.from1 x out
  ];
  from2 = λ x out. elim (cases_eq l.place.phase 4) [
    | inl four ↦ made_holder 4 x l ls (λ e. out (subst (λ n. In n q2) e (in2 four))) ∙ o.from2 x out
    | inr other ↦ made_phase 4 x l ls other ∙ o.from2 x out
  ];
  ahead = ahead;
}

differ : (n k m : ℕ) → n ≡ k → n ≡ m → (k ≡ m → ⊥) → ⊥
differ n k m e f d = d (sym e ∙ f)

order_stack : (q1 q2 : List ℕ) (l : ScanLoad) (ls : List ScanLoad) (ts : List Task) → Order q1 q2 ls → GoodStack ls ts l.place → Order q1 q2 (l ∷ ls)
order_stack q1 q2 l ls ts o g =
    let e = g.0 in
    order_more q1 q2 l ls o (omega (arith, e)) (omega (arith, e)) (let k = g.9 in omega (arith, e, k))
    (λ f. absurd (omega (arith, e, f))) (λ f. absurd (omega (arith, e, f))) (
      (λ f x lt. made_holder 1 x l ls (λ s. omega (arith, s, lt)) ∙ g.8 x lt),
      (λ f. absurd (omega (arith, e, f))),
      (λ f. absurd (omega (arith, e, f))),
      (λ f. absurd (omega (arith, e, f))),
    )

order_first : (q1 q2 : List ℕ) (l : ScanLoad) (ls : List ScanLoad) (bs : List Block) → Order q1 q2 ls → GoodGrey 2 q1 ls bs l.place → Order q1 q2 (l ∷ ls)
order_first q1 q2 l ls bs o g =
    let e = g.0 in
    order_more q1 q2 l ls o (omega (arith, e)) (omega (arith, e)) (let k = g.10 in omega (arith, e, k))
    (λ f. g.8) (λ f. absurd (omega (arith, e, f))) (
      (λ f. absurd (omega (arith, e, f))),
      (λ f. (g.8, (λ x i. made_holder 2 x l ls (λ s. not_behind x q1 o.once1 (subst (λ n. In x (behind n q1)) s i)) ∙ g.9 x i))),
      (λ f. absurd (omega (arith, e, f))),
      (λ f. absurd (omega (arith, e, f))),
    )

order_sum : (q1 q2 : List ℕ) (l : ScanLoad) (ls : List ScanLoad) (bs : List Block) → Order q1 q2 ls → GoodSum ls bs l.place → Order q1 q2 (l ∷ ls)
order_sum q1 q2 l ls bs o g =
    let e = g.0 in
    order_more q1 q2 l ls o (omega (arith, e)) (omega (arith, e)) (let k = g.9 in omega (arith, e, k))
    (λ f. absurd (omega (arith, e, f))) (λ f. absurd (omega (arith, e, f))) (
      (λ f. absurd (omega (arith, e, f))),
      (λ f. absurd (omega (arith, e, f))),
      (λ f x lt. made_holder 3 x l ls (λ s. omega (arith, s, lt)) ∙ g.8 x lt),
      (λ f. absurd (omega (arith, e, f))),
    )

order_second : (q1 q2 : List ℕ) (l : ScanLoad) (ls : List ScanLoad) (bs : List Block) → Order q1 q2 ls → GoodGrey 4 q2 ls bs l.place → Order q1 q2 (l ∷ ls)
order_second q1 q2 l ls bs o g =
    let e = g.0 in
    order_more q1 q2 l ls o (omega (arith, e)) (omega (arith, e)) (let k = g.10 in omega (arith, e, k))
    (λ f. absurd (omega (arith, e, f))) (λ f. g.8) (
      (λ f. absurd (omega (arith, e, f))),
      (λ f. absurd (omega (arith, e, f))),
      (λ f. absurd (omega (arith, e, f))),
      (λ f. (g.8, (λ x i. made_holder 4 x l ls (λ s. not_behind x q2 o.once2 (subst (λ n. In x (behind n q2)) s i)) ∙ g.9 x i))),
    )

pub order_after : (q1 q2 : List ℕ) (l : ScanLoad) (ls : List ScanLoad) (bs : List Block) (ts : List Task) → Order q1 q2 ls → Good q1 q2 ls bs ts l.place → Order q1 q2 (l ∷ ls)
order_after q1 q2 l ls bs ts o (inl g) = order_stack q1 q2 l ls ts o g
order_after q1 q2 l ls bs ts o (inr (inl g)) = order_first q1 q2 l ls bs o g
order_after q1 q2 l ls bs ts o (inr (inr (inl g))) = order_sum q1 q2 l ls bs o g
order_after q1 q2 l ls bs ts o (inr (inr (inr g))) = order_second q1 q2 l ls bs o g

-- what stands after one more load
stands_more : (q1 q2 : List ℕ) (l : ScanLoad) (ls : List ScanLoad) (r : ℕ) (bs : List Block) (s : ℕ) (ts : List Task) → Stands q1 q2 ls r bs s ts
    → HeadGiven (l ∷ ls) r s → ((b : Block) → In b bs → HeadBlock (l ∷ ls) b) → ((t : Task) → In t ts → HeadTask (l ∷ ls) t) → Stands q1 q2 (l ∷ ls) r bs s ts
stands_more q1 q2 l ls r bs s ts h given blocks tasks = record {
  blocks_rise = h.blocks_rise;
  tasks_rise = h.tasks_rise;
  given1 = h.given1;
  given2 = h.given2;
  queued = each_weaker (QueuedGrey q1 q2 ls) (QueuedGrey q1 q2 (l ∷ ls)) (λ b k. ((λ i. grey_stays l ls b (k.0 i)), (λ i. grey_stays l ls b (k.1 i)))) bs h.queued;
  head_given = given;
  head_block = in_each (HeadBlock (l ∷ ls)) bs blocks;
  head_task = in_each (HeadTask (l ∷ ls)) ts tasks;
}

stands_stack : (q1 q2 : List ℕ) (l : ScanLoad) (ls : List ScanLoad) (r : ℕ) (bs : List Block) (s : ℕ) (ts : List Task) → Stands q1 q2 ls r bs s ts → GoodStack ls ts l.place → Stands q1 q2 (l ∷ ls) r bs s ts
stands_stack q1 q2 l ls r bs s ts h g =
    let e = g.0 in
    let t = g.1 in
    let bound = rising_in (λ (t : Task). t.number) ts 0 (s + 1) t h.tasks_rise g.2 in
    stands_more q1 q2 l ls r bs s ts h
    ((λ f. let a = bound.1 in let b = g.3 in omega (arith, a, b)), (λ f. absurd (f e)))
    (λ b i. ((λ f p. absurd (omega (arith, e, p))), (λ f p. absurd (omega (arith, e, p))), (λ f p. absurd (omega (arith, e, p)))))
    (λ u i f p.
    let same : u ≡ t = rising_unique (λ (t : Task). t.number) ts 0 (s + 1) u t h.tasks_rise i g.2 (sym f ∙ sym g.3) in
    let stack : u.stack ≡ t.stack = ap (λ (v : Task). v.stack) same in
    let count : made 1 u.number (l ∷ ls) ≡ suc (made 1 u.number ls) = made_same 1 u.number l ls p f in
    let before : made 1 u.number ls ≤ g.4 = subst (λ n. made 1 n ls ≤ g.4) f g.7 in
    let word = g.6 in
    omega (arith, stack, count, before, word))

stands_grey : (p : ℕ) (q q1 q2 : List ℕ) (l : ScanLoad) (ls : List ScanLoad) (r : ℕ) (bs : List Block) (s : ℕ) (ts : List Task) → (p ≡ 2) ⊎ (p ≡ 4) → Stands q1 q2 ls r bs s ts → GoodGrey p q ls bs l.place → Stands q1 q2 (l ∷ ls) r bs s ts
stands_grey p q q1 q2 l ls r bs s ts grey h g =
    let e = g.0 in
    let b = g.1 in
    let bound = rising_in (λ (b : Block). b.id) bs 0 r b h.blocks_rise g.2 in
    let not1 : p ≡ 1 → ⊥ = λ f. elim grey [ inl a ↦ omega (arith, a, f) | inr a ↦ omega (arith, a, f) ] in
    let not3 : p ≡ 3 → ⊥ = λ f. elim grey [ inl a ↦ omega (arith, a, f) | inr a ↦ omega (arith, a, f) ] in
    let step : (c : Block) → In c bs → l.place.holder ≡ c.id → c.start + 8 * suc (made 2 c.id ls + made 4 c.id ls) ≤ l.place.word + 8 = λ c i f.
    let same : c ≡ b = rising_unique (λ (b : Block). b.id) bs 0 r c b h.blocks_rise i g.2 (sym f ∙ sym g.3) in
    let start : c.start ≡ b.start = ap (λ (d : Block). d.start) same in
    let before : made 2 c.id ls + made 4 c.id ls ≤ g.4 = subst (λ n. made 2 n ls + made 4 n ls ≤ g.4) f g.7 in
    let word = g.6 in
    omega (arith, start, before, word) in
    stands_more q1 q2 l ls r bs s ts h
    ((λ f. absurd (not1 (sym e ∙ f))), (λ f. let a = bound.1 in let k = g.3 in omega (arith, a, k)))
    (λ c i. (
      (λ f two.
          let four = made_phase 4 c.id l ls (λ k. omega (arith, two, k)) in
          let more = made_same 2 c.id l ls two f in
          let k = step c i f in
          omega (arith, four, more, k)),
      (λ f three. absurd (not3 (sym e ∙ three))),
      (λ f four.
          let two = made_phase 2 c.id l ls (λ k. omega (arith, four, k)) in
          let more = made_same 4 c.id l ls four f in
          let k = step c i f in
          omega (arith, two, more, k)),
    ))
    (λ u i f one. absurd (not1 (sym e ∙ one)))

stands_sum : (q1 q2 : List ℕ) (l : ScanLoad) (ls : List ScanLoad) (r : ℕ) (bs : List Block) (s : ℕ) (ts : List Task) → Stands q1 q2 ls r bs s ts → GoodSum ls bs l.place → Stands q1 q2 (l ∷ ls) r bs s ts
stands_sum q1 q2 l ls r bs s ts h g =
    let e = g.0 in
    let b = g.1 in
    let bound = rising_in (λ (b : Block). b.id) bs 0 r b h.blocks_rise g.2 in
    stands_more q1 q2 l ls r bs s ts h
    ((λ f. absurd (omega (arith, e, f))), (λ f. let a = bound.1 in let k = g.3 in omega (arith, a, k)))
    (λ c i. (
      (λ f two. absurd (omega (arith, e, two))),
      (λ f three.
          let same : c ≡ b = rising_unique (λ (b : Block). b.id) bs 0 r c b h.blocks_rise i g.2 (sym f ∙ sym g.3) in
          let start : c.start ≡ b.start = ap (λ (d : Block). d.start) same in
          let before : made 3 c.id ls ≤ g.4 = subst (λ n. made 3 n ls ≤ g.4) f g.7 in
          let more = made_same 3 c.id l ls three f in
          let word = g.6 in
          omega (arith, start, before, more, word)),
      (λ f four. absurd (omega (arith, e, four))),
    ))
    (λ u i f one. absurd (omega (arith, e, one)))

pub stands_after : (q1 q2 : List ℕ) (l : ScanLoad) (ls : List ScanLoad) (r : ℕ) (bs : List Block) (s : ℕ) (ts : List Task) → Stands q1 q2 ls r bs s ts → Good q1 q2 ls bs ts l.place → Stands q1 q2 (l ∷ ls) r bs s ts
stands_after q1 q2 l ls r bs s ts h (inl g) = stands_stack q1 q2 l ls r bs s ts h g
stands_after q1 q2 l ls r bs s ts h (inr (inl g)) = stands_grey 2 q1 q1 q2 l ls r bs s ts (inl refl) h g
stands_after q1 q2 l ls r bs s ts h (inr (inr (inl g))) = stands_sum q1 q2 l ls r bs s ts h g
stands_after q1 q2 l ls r bs s ts h (inr (inr (inr g))) = stands_grey 4 q2 q1 q2 l ls r bs s ts (inr refl) h g

-- a queue grows by a block that was in none
ahead_first : (q1 q2 : List ℕ) (r : ℕ) (ls : List ScanLoad) → made 2 r ls ≡ 0 → Ahead q1 q2 ls → Ahead (q1 ++ r ∷ []) q2 ls
ahead_first q1 q2 r [] none a = tt
ahead_first q1 q2 r (l ∷ ls) none a = (
  a.0,
  (λ two. let k = a.1 two in (
    in_push_left q1 l.place.holder r k.0,
    (λ x i. elim (behind_push l.place.holder x r q1 k.0 i) [ inl j ↦ k.1 x j | inr same ↦ subst (λ n. made 2 n (l ∷ ls) ≡ 0) (sym same) none ]),
  )),
  a.2,
  a.3,
)

ahead_second : (q1 q2 : List ℕ) (r : ℕ) (ls : List ScanLoad) → made 4 r ls ≡ 0 → Ahead q1 q2 ls → Ahead q1 (q2 ++ r ∷ []) ls
ahead_second q1 q2 r [] none a = tt
ahead_second q1 q2 r (l ∷ ls) none a = (
  a.0,
  a.1,
  a.2,
  (λ four. let k = a.3 four in (
    in_push_left q2 l.place.holder r k.0,
    (λ x i. elim (behind_push l.place.holder x r q2 k.0 i) [ inl j ↦ k.1 x j | inr same ↦ subst (λ n. made 4 n (l ∷ ls) ≡ 0) (sym same) none ]),
  )),
)

pub order_first_grows : (q1 q2 : List ℕ) (r : ℕ) (ls : List ScanLoad) → (In r q1 → ⊥) → (In r q2 → ⊥) → Order q1 q2 ls → Order (q1 ++ r ∷ []) q2 ls
order_first_grows q1 q2 r ls out1 out2 o = record {
  low = o.low;
  high = o.high;
  above = o.above;
  once1 = distinct_push q1 r o.once1 out1;
  once2 = o.once2;
  apart = λ x i j. elim (in_push_cases q1 x r i) [ inl k ↦ o.apart x k j | inr same ↦ out2 (subst (λ n. In n q2) same j) ];
  from1 = λ x out. o.from1 x (λ i. out (in_push_left q1 x r i));
  from2 = o.from2;
  ahead = ahead_first q1 q2 r ls (o.from1 r out1) o.ahead;
}

pub order_second_grows : (q1 q2 : List ℕ) (r : ℕ) (ls : List ScanLoad) → (In r q1 → ⊥) → (In r q2 → ⊥) → Order q1 q2 ls → Order q1 (q2 ++ r ∷ []) ls
order_second_grows q1 q2 r ls out1 out2 o = record {
  low = o.low;
  high = o.high;
  above = o.above;
  once1 = o.once1;
  once2 = distinct_push q2 r o.once2 out2;
  apart = λ x i j. elim (in_push_cases q2 x r j) [ inl k ↦ o.apart x i k | inr same ↦ out1 (subst (λ n. In n q1) same i) ];
  from1 = o.from1;
  from2 = λ x out. o.from2 x (λ i. out (in_push_left q2 x r i));
  ahead = ahead_second q1 q2 r ls (o.from2 r out2) o.ahead;
}

pub stands_first_grows : (q1 q2 : List ℕ) (id : ℕ) (ls : List ScanLoad) (r : ℕ) (bs : List Block) (s : ℕ) (ts : List Task) → id < r → ((b : Block) → In b bs → b.id ≡ id → white_in ls b ≡ false)
    → Stands q1 q2 ls r bs s ts → Stands (q1 ++ id ∷ []) q2 ls r bs s ts
stands_first_grows q1 q2 id ls r bs s ts lt grey h = record {
  blocks_rise = h.blocks_rise;
  tasks_rise = h.tasks_rise;
  given1 = λ x i. elim (in_push_cases q1 x id i) [ inl k ↦ h.given1 x k | inr same ↦ omega (arith, same, lt) ];
  given2 = h.given2;
  queued = in_each (QueuedGrey (q1 ++ id ∷ []) q2 ls) bs (λ b i. let k = each_in (QueuedGrey q1 q2 ls) bs b h.queued i in
      ((λ j. elim (in_push_cases q1 b.id id j) [ inl m ↦ k.0 m | inr same ↦ grey b i same ]), k.1));
  head_given = h.head_given;
  head_block = h.head_block;
  head_task = h.head_task;
}

pub stands_second_grows : (q1 q2 : List ℕ) (id : ℕ) (ls : List ScanLoad) (r : ℕ) (bs : List Block) (s : ℕ) (ts : List Task) → id < r → ((b : Block) → In b bs → b.id ≡ id → white_in ls b ≡ false)
    → Stands q1 q2 ls r bs s ts → Stands q1 (q2 ++ id ∷ []) ls r bs s ts
stands_second_grows q1 q2 id ls r bs s ts lt grey h = record {
  blocks_rise = h.blocks_rise;
  tasks_rise = h.tasks_rise;
  given1 = h.given1;
  given2 = λ x i. elim (in_push_cases q2 x id i) [ inl k ↦ h.given2 x k | inr same ↦ omega (arith, same, lt) ];
  queued = in_each (QueuedGrey q1 (q2 ++ id ∷ []) ls) bs (λ b i. let k = each_in (QueuedGrey q1 q2 ls) bs b h.queued i in
      (k.0, (λ j. elim (in_push_cases q2 b.id id j) [ inl m ↦ k.1 m | inr same ↦ grey b i same ])));
  head_given = h.head_given;
  head_block = h.head_block;
  head_task = h.head_task;
}
