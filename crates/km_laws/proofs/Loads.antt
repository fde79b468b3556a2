use Rattle.std.proofs.Common.{◌≡◌, ℕ, suc, ◌+◌, ◌*◌, ◌/◌, ◌<◌, ◌≤◌, true, List, [], ◌∷◌, refl, sym, ◌∙◌, subst, arith, ◌⊎◌, inl, inr}
use Rattle.std.proofs.lemmas.Bool.{cases_eq}
use Rattle.km_model.specs.Blocks.{Block}
use Rattle.km_model.specs.Tasks.{Task}
use Rattle.km_model.specs.Past.{Place, ScanLoad}
use Rattle.km_model.specs.Scan.{behind, phase_of}
use Rattle.km_laws.specs.Left.{made}
use Rattle.km_laws.proofs.Lists.{each_in, In}
use Rattle.km_laws.proofs.Queues.{in_behind, behind_later}
use Rattle.km_model.proofs.Whites.{white_in}
use Rattle.km_model.proofs.Places.{Word, StackPlace, GreyPlace, SumFrom}
use Rattle.km_laws.proofs.Runs.{newest, Order, HeadBlock, HeadTask, Stands}

-- whether a load goes on with the holder of the last one, in its phase
abbrev pub GoesOn : List ScanLoad → Place → Type 0
GoesOn [] place = ⊥
GoesOn (l ∷ ls) place = (place.phase ≡ l.place.phase) × (place.holder ≡ l.place.holder) × (l.place.word < place.word)

-- a load of the first phase: so many words of the stack were loaded as are below it at most, and none of a later one
abbrev pub GoodStack : List ScanLoad → List Task → Place → Type 0
GoodStack ls ts place =
    (place.phase ≡ 1) × (t : Task) × In t ts × (t.number ≡ place.holder) × (i : ℕ) × (i < 512) × (place.word ≡ t.stack + 8 * i)
    × (made 1 place.holder ls ≤ i) × ((x : ℕ) → place.holder < x → made 1 x ls ≡ 0) × (phase_of (newest ls) ≤ 1)
    × (GoesOn ls place ⊎ (made 1 place.holder ls ≡ 0))

-- a load of a grey phase, the second or the fourth
abbrev pub GoodGrey : ℕ → List ℕ → List ScanLoad → List Block → Place → Type 0
GoodGrey p q ls bs place =
    (place.phase ≡ p) × (b : Block) × In b bs × (b.id ≡ place.holder) × (i : ℕ) × (i < b.size / 8) × (place.word ≡ b.start + 8 * i)
    × (made 2 place.holder ls + made 4 place.holder ls ≤ i) × In place.holder q × ((x : ℕ) → In x (behind place.holder q) → made p x ls ≡ 0) × (phase_of (newest ls) ≤ p)
    × (GoesOn ls place ⊎ (made 2 place.holder ls + made 4 place.holder ls ≡ 0))

-- a load of the third phase
abbrev pub GoodSum : List ScanLoad → List Block → Place → Type 0
GoodSum ls bs place =
    (place.phase ≡ 3) × (b : Block) × In b bs × (b.id ≡ place.holder) × (i : ℕ) × (i < suc (b.size / 8)) × (place.word ≡ b.start + 8 * i)
    × (made 3 place.holder ls ≤ i) × ((x : ℕ) → place.holder < x → made 3 x ls ≡ 0) × (phase_of (newest ls) ≤ 3) × (white_in ls b ≡ true)
    × (GoesOn ls place ⊎ (made 3 place.holder ls ≡ 0))

pub good_stack : (q1 q2 : List ℕ) (ls : List ScanLoad) (r : ℕ) (bs : List Block) (s : ℕ) (ts : List Task) (place : Place) → Order q1 q2 ls → Stands q1 q2 ls r bs s ts
    → phase_of (newest ls) ≤ 1 → StackPlace ts (newest ls) place → GoodStack ls ts place
good_stack q1 q2 [] r bs s ts place o h le f =
    let w = f.1.3 in
    (f.0, f.1.0, f.1.1, f.1.2, w.0, w.1, w.2, omega arith, (λ x _. refl), omega arith, inr refl)
good_stack q1 q2 (l ∷ ls) r bs s ts place o h le f =
    let t = f.1.0 in
    let w = f.1.3 in
    let one : l.place.phase ≡ 1 = (let k = o.low in omega (arith, k, le)) in
    elim f.2 [
      | inl on ↦
          let head : t.stack + 8 * made 1 t.number (l ∷ ls) ≤ l.place.word + 8 = each_in (HeadTask (l ∷ ls)) ts t h.head_task f.1.1 (sym on.0 ∙ sym f.1.2) one in
          let head' : t.stack + 8 * made 1 place.holder (l ∷ ls) ≤ l.place.word + 8 = subst (λ n. t.stack + 8 * made 1 n (l ∷ ls) ≤ l.place.word + 8) f.1.2 head in
          let count : made 1 place.holder (l ∷ ls) ≤ w.0 = (let a = on.1 in let b = w.2 in omega (arith, a, b, head')) in
          (f.0, t, f.1.1, f.1.2, w.0, w.1, w.2, count, (λ x lt. o.ahead.0 one x (subst (λ n. n < x) on.0 lt)), le, inl (f.0 ∙ sym one, on.0, on.1))
      | inr later ↦
          let none : made 1 place.holder (l ∷ ls) ≡ 0 = o.ahead.0 one place.holder later in
          (f.0, t, f.1.1, f.1.2, w.0, w.1, w.2, omega (arith, none), (λ x lt. o.ahead.0 one x (omega (arith, later, lt))), le, inr none)
    ]

pub good_first : (q1 q2 : List ℕ) (ls : List ScanLoad) (r : ℕ) (bs : List Block) (s : ℕ) (ts : List Task) (place : Place) → Order q1 q2 ls → Stands q1 q2 ls r bs s ts
    → phase_of (newest ls) ≤ 2 → GreyPlace 2 bs q1 (newest ls) place → GoodGrey 2 q1 ls bs place
good_first q1 q2 [] r bs s ts place o h le f =
    let w = f.1.3 in
    (f.0, f.1.0, f.1.1, f.1.2, w.0, w.1, w.2, omega arith, f.2, (λ x _. refl), omega arith, inr refl)
good_first q1 q2 (l ∷ ls) r bs s ts place o h le f =
    let b = f.1.0 in
    let w = f.1.3 in
    elim f.2 [
      | inl two ↦
          let ahead = o.ahead.1 two.0 in
          let no4 : made 4 place.holder (l ∷ ls) ≡ 0 = o.above 4 place.holder (omega (arith, le)) in
          elim two.1 [
            | inl on ↦
                let head : b.start + 8 * (made 2 b.id (l ∷ ls) + made 4 b.id (l ∷ ls)) ≤ l.place.word + 8 = (each_in (HeadBlock (l ∷ ls)) bs b h.head_block f.1.1).0 (sym on.0 ∙ sym f.1.2) two.0 in
                let head' : b.start + 8 * (made 2 place.holder (l ∷ ls) + made 4 place.holder (l ∷ ls)) ≤ l.place.word + 8 =
                subst (λ n. b.start + 8 * (made 2 n (l ∷ ls) + made 4 n (l ∷ ls)) ≤ l.place.word + 8) f.1.2 head in
                let count : made 2 place.holder (l ∷ ls) + made 4 place.holder (l ∷ ls) ≤ w.0 = (let a = on.1 in let c = w.2 in omega (arith, a, c, head')) in (
                  f.0,
                  b,
                  f.1.1,
                  f.1.2,
                  w.0,
                  w.1,
                  w.2,
                  count,
                  subst (λ n. In n q1) (sym on.0) ahead.0,
                  (λ x i. ahead.1 x (subst (λ n. In x (behind n q1)) on.0 i)),
                  le,
                  inl (f.0 ∙ sym two.0, on.0, on.1),
                )
            | inr rest ↦
                let none : made 2 place.holder (l ∷ ls) ≡ 0 = ahead.1 place.holder rest in (
                  f.0,
                  b,
                  f.1.1,
                  f.1.2,
                  w.0,
                  w.1,
                  w.2,
                  omega (arith, none, no4),
                  in_behind l.place.holder place.holder q1 rest,
                  (λ x i. ahead.1 x (behind_later l.place.holder place.holder x q1 o.once1 rest i)),
                  le,
                  inr (omega (arith, none, no4)),
                )
          ]
      | inr first ↦
          let less : l.place.phase < 2 = (let k = cases_eq l.place.phase 2 in elim k [ inl same ↦ absurd (first.0 same) | inr other ↦ omega (arith, le, other) ]) in
          let none : made 2 place.holder (l ∷ ls) ≡ 0 = o.above 2 place.holder less in
          let no4 : made 4 place.holder (l ∷ ls) ≡ 0 = o.above 4 place.holder (omega (arith, le)) in
          (f.0, b, f.1.1, f.1.2, w.0, w.1, w.2, omega (arith, none, no4), first.1, (λ x _. o.above 2 x less), le, inr (omega (arith, none, no4)))
    ]

pub good_second : (q1 q2 : List ℕ) (ls : List ScanLoad) (r : ℕ) (bs : List Block) (s : ℕ) (ts : List Task) (place : Place) → Order q1 q2 ls → Stands q1 q2 ls r bs s ts
    → GreyPlace 4 bs q2 (newest ls) place → GoodGrey 4 q2 ls bs place
good_second q1 q2 [] r bs s ts place o h f =
    let w = f.1.3 in
    (f.0, f.1.0, f.1.1, f.1.2, w.0, w.1, w.2, omega arith, f.2, (λ x _. refl), omega arith, inr refl)
good_second q1 q2 (l ∷ ls) r bs s ts place o h f =
    let b = f.1.0 in
    let w = f.1.3 in
    elim f.2 [
      | inl four ↦
          let ahead = o.ahead.3 four.0 in
          elim four.1 [
            | inl on ↦
                let head : b.start + 8 * (made 2 b.id (l ∷ ls) + made 4 b.id (l ∷ ls)) ≤ l.place.word + 8 = (each_in (HeadBlock (l ∷ ls)) bs b h.head_block f.1.1).2 (sym on.0 ∙ sym f.1.2) four.0 in
                let head' : b.start + 8 * (made 2 place.holder (l ∷ ls) + made 4 place.holder (l ∷ ls)) ≤ l.place.word + 8 =
                subst (λ n. b.start + 8 * (made 2 n (l ∷ ls) + made 4 n (l ∷ ls)) ≤ l.place.word + 8) f.1.2 head in
                let count : made 2 place.holder (l ∷ ls) + made 4 place.holder (l ∷ ls) ≤ w.0 = (let a = on.1 in let c = w.2 in omega (arith, a, c, head')) in (
                  f.0,
                  b,
                  f.1.1,
                  f.1.2,
                  w.0,
                  w.1,
                  w.2,
                  count,
                  subst (λ n. In n q2) (sym on.0) ahead.0,
                  (λ x i. ahead.1 x (subst (λ n. In x (behind n q2)) on.0 i)),
                  o.high,
                  inl (f.0 ∙ sym four.0, on.0, on.1),
                )
            | inr rest ↦
                let queued : In place.holder q2 = in_behind l.place.holder place.holder q2 rest in
                let none : made 4 place.holder (l ∷ ls) ≡ 0 = ahead.1 place.holder rest in
                let no2 : made 2 place.holder (l ∷ ls) ≡ 0 = o.from1 place.holder (λ i. o.apart place.holder i queued) in (
                  f.0,
                  b,
                  f.1.1,
                  f.1.2,
                  w.0,
                  w.1,
                  w.2,
                  omega (arith, none, no2),
                  queued,
                  (λ x i. ahead.1 x (behind_later l.place.holder place.holder x q2 o.once2 rest i)),
                  o.high,
                  inr (omega (arith, none, no2)),
                )
          ]
      | inr first ↦
          let high = o.high in
          let less : l.place.phase < 4 = (let k = cases_eq l.place.phase 4 in elim k [ inl same ↦ absurd (first.0 same) | inr other ↦ omega (arith, high, other) ]) in
          let none : made 4 place.holder (l ∷ ls) ≡ 0 = o.above 4 place.holder less in
          let no2 : made 2 place.holder (l ∷ ls) ≡ 0 = o.from1 place.holder (λ i. o.apart place.holder i first.1) in
          (f.0, b, f.1.1, f.1.2, w.0, w.1, w.2, omega (arith, none, no2), first.1, (λ x _. o.above 4 x less), o.high, inr (omega (arith, none, no2)))
    ]

-- a live white block with a word
abbrev pub WhiteAt : List ScanLoad → List Block → ℕ → ℕ → Type 0
WhiteAt ls bs id a = (b : Block) × In b bs × (b.id ≡ id) × Word (suc (b.size / 8)) b.start a × (white_in ls b ≡ true)

pub good_sum : (q1 q2 : List ℕ) (ls : List ScanLoad) (r : ℕ) (bs : List Block) (s : ℕ) (ts : List Task) (place : Place) → Order q1 q2 ls → Stands q1 q2 ls r bs s ts
    → phase_of (newest ls) ≤ 3 → place.phase ≡ 3 → WhiteAt ls bs place.holder place.word → SumFrom (newest ls) place → GoodSum ls bs place
good_sum q1 q2 [] r bs s ts place o h le e f from =
    let w = f.3 in
    (e, f.0, f.1, f.2, w.0, w.1, w.2, omega arith, (λ x _. refl), omega arith, f.4, inr refl)
good_sum q1 q2 (l ∷ ls) r bs s ts place o h le e f from =
    let b = f.0 in
    let w = f.3 in
    elim from [
      | inl three ↦
          let ahead = o.ahead.2 three.0 in
          elim three.1 [
            | inl on ↦
                let head : b.start + 8 * made 3 b.id (l ∷ ls) ≤ l.place.word + 8 = (each_in (HeadBlock (l ∷ ls)) bs b h.head_block f.1).1 (sym on.0 ∙ sym f.2) three.0 in
                let head' : b.start + 8 * made 3 place.holder (l ∷ ls) ≤ l.place.word + 8 = subst (λ n. b.start + 8 * made 3 n (l ∷ ls) ≤ l.place.word + 8) f.2 head in
                let count : made 3 place.holder (l ∷ ls) ≤ w.0 = (let a = on.1 in let c = w.2 in omega (arith, a, c, head')) in
                (e, b, f.1, f.2, w.0, w.1, w.2, count, (λ x lt. ahead x (subst (λ n. n < x) on.0 lt)), le, f.4, inl (e ∙ sym three.0, on.0, on.1))
            | inr later ↦
                let none : made 3 place.holder (l ∷ ls) ≡ 0 = ahead place.holder later in
                (e, b, f.1, f.2, w.0, w.1, w.2, omega (arith, none), (λ x lt. ahead x (omega (arith, later, lt))), le, f.4, inr none)
          ]
      | inr first ↦
          let less : l.place.phase < 3 = (let k = cases_eq l.place.phase 3 in elim k [ inl same ↦ absurd (first same) | inr other ↦ omega (arith, le, other) ]) in
          let none : made 3 place.holder (l ∷ ls) ≡ 0 = o.above 3 place.holder less in
          (e, b, f.1, f.2, w.0, w.1, w.2, omega (arith, none), (λ x _. o.above 3 x less), le, f.4, inr none)
    ]

-- where the next load is made, and what was loaded before
abbrev pub Good : List ℕ → List ℕ → List ScanLoad → List Block → List Task → Place → Type 0
Good q1 q2 ls bs ts place = GoodStack ls ts place ⊎ (GoodGrey 2 q1 ls bs place ⊎ (GoodSum ls bs place ⊎ GoodGrey 4 q2 ls bs place))
