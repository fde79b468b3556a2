-- What the scanner makes, one act after another.
use Rattle.std.proofs.Common.{◌≡◌, ℕ, zero, suc, ◌+◌, ◌-◌, ◌*◌, ◌<◌, ◌≤◌, ◌^◌, Bool, true, false, ◌&&◌, List, [], ◌∷◌, ◌++◌, length, Option, Some, None, if◌then◌else◌, refl, sym, ◌∙◌, ap, subst, arith, inl, inr, ◌⊎◌, append_assoc, append-nil, length-append, eq-eqb}
use Rattle.std.specs.Prelude.{is_some}
use Rattle.std.proofs.lemmas.List.Sums.{sum_by-append}
use Rattle.km_base.specs.declared.acts.Act.{Act}
use Rattle.km_base.specs.declared.acts.Act.TheVariants as act
use Rattle.km_base.specs.declared.acts.FileCmd.TheVariants as file
use Rattle.km_base.specs.declared.acts.Answer.{Answer}
use Rattle.km_base.specs.declared.acts.Answer.TheVariants.{Loaded}
use Rattle.km_model.specs.History.{ticks_of}
use Rattle.km_model.specs.Past.{completes}
use Rattle.km_words.specs.Told.{Told, WordStep}
use Rattle.km_rounds.specs.declared.entry.Entry.{Entry}
use Rattle.km_rounds.specs.Journals.{Journal, loads_in, with_loaded, ticks_in}
use Rattle.km_live_model.specs.Courses.{Stage, AtTick, AtBegin, AtStep, Halted, ends_at, is_scanner_course, stage_after}
use Rattle.km_workers.specs.declared.scanner.Turn.TheVariants as turn
use Rattle.km_workers.specs.Workers.{Acting, Acted, Acts, AreSteps, IsCut, IsOneScan, IsScan, IsTurn, Leads, MakesOne, Stepped, loads_of, with_steps}
use Rattle.km_workers.proofs.Lines.{limit_below, stepped_on}

-- an act that was answered, and one that wasn't
abbrev made_some : (a b : Acting) (t u : Told) (what : Act) (answer : Answer) → Acted a b what (Some answer) → Stepped t u (loads_of (Some answer)) → Acts a b t u
made_some a b t u what answer acted stepped = record {
  entries = record { by = a.by; act = what; answer = answer } ∷ [];
  stepped = stepped;
  same = acted.same;
  own = acted.made.0;
  more = acted.more;
  seen = acted.seen;
  within = acted.within;
}

abbrev made_none : (a b : Acting) (t u : Told) (what : Act) → Acted a b what None → Stepped t u (loads_of None) → Acts a b t u
made_none a b t u what acted stepped = record {
  entries = [];
  stepped = stepped;
  same = acted.same;
  own = acted.made.0 ∙ sym (append-nil a.own);
  more = acted.more;
  seen = acted.seen;
  within = acted.within;
}

pub full_below : (a b : Acting) (what : Act) → Acted a b what None → a.limit ≤ b.most
full_below a b what acted = let low = limit_below a.limit what in let high = acted.made.1 in omega (arith, low, high)

pub made_one : (a b : Acting) (t u : Told) (what : Act) (result : Option Answer) (q : Bool) → q ≡ is_some result → Acted a b what result → Stepped t u (loads_of result)
    → (made : Acts a b t u) × MakesOne a b made.entries what q
made_one a b t u what (Some answer) q e acted stepped =
    subst (λ r. (made : Acts a b t u) × MakesOne a b made.entries what r) (sym e) (made_some a b t u what answer acted stepped, (answer, refl))
made_one a b t u what None q e acted stepped =
    subst (λ r. (made : Acts a b t u) × MakesOne a b made.entries what r) (sym e) (made_none a b t u what acted stepped, (refl, full_below a b what acted))

pub loads_both : (xs ys : Journal) → loads_in (xs ++ ys) ≡ loads_in xs ++ loads_in ys
loads_both [] ys = refl
loads_both (x ∷ xs) ys = ap (with_loaded x.answer) (loads_both xs ys) ∙ onto x.answer (loads_in xs) (loads_in ys)
  where
    onto : (answer : Answer) (ps qs : List WordStep) → with_loaded answer (ps ++ qs) ≡ with_loaded answer ps ++ qs
    onto (Loaded a v) ps qs = refl
    onto _ ps qs = refl

ticks_both : (xs ys : Journal) → ticks_in (xs ++ ys) ≡ ticks_in xs + ticks_in ys
ticks_both xs ys = sum_by-append (λ (e : Entry). ticks_of e.act) xs ys

-- acts after acts
abbrev pub made_then : (a b c : Acting) (t u v : Told) → Acts a b t u → Acts b c u v → Acts a c t v
made_then a b c t u v f k = record {
  entries = f.entries ++ k.entries;
  stepped = subst (λ xs. Stepped t v xs) (sym (loads_both f.entries k.entries)) (stepped_on t u v (loads_in f.entries) (loads_in k.entries) f.stepped k.stepped);
  same = k.same ∙ ap (λ (x : Acting). record x { own = c.own; most = c.most }) f.same;
  own = k.own ∙ (ap (λ xs. xs ++ k.entries) f.own ∙ append_assoc a.own f.entries k.entries);
  more = (let x = f.more in let y = k.more in omega (arith, x, y));
  seen = k.seen;
  within = (let limit : b.limit ≡ a.limit = ap (λ (x : Acting). x.limit) f.same in let x = k.within in omega (arith, limit, x));
}

pub leads_then : (gap : ℕ) (s : Stage) (xs ys : Journal) (m e : Stage) → Leads gap s xs m → Leads gap m ys e → Leads gap s (xs ++ ys) e
leads_then gap s [] ys m e f k = subst (λ x. Leads gap x ys e) (sym f) k
leads_then gap s (x ∷ xs) ys m e f k = (f.0, leads_then gap (stage_after s x.act x.answer) xs ys m e f.1 k)

-- what leads to a stage is the course if it may end there
pub leads_course : (gap : ℕ) (s : Stage) (xs : Journal) (e : Stage) (whole : Bool) → Leads gap s xs e → ends_at e whole ≡ true → is_scanner_course gap s xs whole ≡ true
leads_course gap s [] e whole f k = subst (λ x. ends_at x whole ≡ true) (sym f) k
leads_course gap s (x ∷ xs) e whole f k =
    ap (λ q. q && is_scanner_course gap (stage_after s x.act x.answer) xs whole) f.0 ∙ leads_course gap (stage_after s x.act x.answer) xs e whole f.1 k

-- the three turns
pub turn_ended : (a b : Acting) (t u : Told) (result : Option Answer) (answer : Answer) → result ≡ Some answer → completes answer ≡ true → Acted a b act.Step result → Stepped t u (loads_of result)
    → (made : Acts a b t u) × IsTurn a b made.entries turn.Ended
turn_ended a b t u result answer is over acted stepped = (
  made_some a b t u act.Step answer (subst (λ r. Acted a b act.Step r) is acted) (subst (λ r. Stepped t u (loads_of r)) is stepped),
  (λ gap m. (refl, subst (λ q. (if q then AtTick (m - 1) else AtStep m) ≡ AtTick (m - 1)) (sym over) refl), refl),
)

pub turn_goes : (a b : Acting) (t u : Told) (result : Option Answer) (answer : Answer) → result ≡ Some answer → completes answer ≡ false → Acted a b act.Step result → Stepped t u (loads_of result)
    → (made : Acts a b t u) × IsTurn a b made.entries turn.Goes
turn_goes a b t u result answer is on acted stepped = (
  made_some a b t u act.Step answer (subst (λ r. Acted a b act.Step r) is acted) (subst (λ r. Stepped t u (loads_of r)) is stepped),
  (λ gap m. (refl, subst (λ q. (if q then AtTick (m - 1) else AtStep m) ≡ AtStep m) (sym on) refl), refl, refl),
)

pub turn_cut : (a b c : Acting) (t u v : Told) (result second : Option Answer) → result ≡ None → Acted a b act.Step result → Stepped t u (loads_of result)
    → Acted b c act.Halt second → Stepped u v (loads_of second) → (made : Acts a c t v) × IsTurn a c made.entries turn.Cut
turn_cut a b c t u v result second is acted stepped halted stepped' =
    cut_by a b c t u v second (subst (λ r. Acted a b act.Step r) is acted) (subst (λ r. Stepped t u (loads_of r)) is stepped) halted stepped'
  where
    cut_by : (a b c : Acting) (t u v : Told) (r : Option Answer) → Acted a b act.Step None → Stepped t u (loads_of None) → Acted b c act.Halt r → Stepped u v (loads_of r)
        → (made : Acts a c t v) × IsTurn a c made.entries turn.Cut
    cut_by a b c t u v (Some answer) f x h s = (
      made_then a b c t u v (made_none a b t u act.Step f x) (made_some b c u v act.Halt answer h s),
      λ gap n. (
        (let full = full_below a b act.Step f in let more = h.more in omega (arith, full, more)),
        inl (Halted, (refl, refl), refl),
      ),
    )
    cut_by a b c t u v None f x h s = (
      made_then a b c t u v (made_none a b t u act.Step f x) (made_none b c u v act.Halt h s),
      λ gap n. (
        (let full = full_below a b act.Step f in let more = h.more in omega (arith, full, more)),
        inr (n, refl, (let low = h.made.1 in let high = h.within in let limit : b.limit ≡ a.limit = ap (λ (y : Acting). y.limit) f.same in omega (arith, low, high, limit))),
      ),
    )

-- what a cut leaves, after what leads to it
pub cut_then : (a b c : Acting) (gap : ℕ) (s m : Stage) (xs ys : Journal) → b.limit ≡ a.limit → Leads gap s xs m → IsCut b c gap m ys → IsCut a c gap s (xs ++ ys)
cut_then a b c gap s m xs ys limit f k = (
  (let x = k.0 in omega (arith, limit, x)),
  (elim k.1 [
    | inl there ↦ inl (there.0, leads_then gap s xs ys m there.0 f there.1, there.2)
    | inr there ↦ inr (there.0, leads_then gap s xs ys m (AtStep there.0) f there.1, there.2 ∙ ap (λ n. n + 1) limit)
  ]),
)

-- a turn goes on with the scan
pub steps_more : (a b c : Acting) (t u v : Told) (i : ℕ) (f : Acts a b t u) → ((gap n : ℕ) → Leads gap (AtStep n) f.entries (AtStep n)) → ticks_in f.entries ≡ 0 → i ≤ length f.entries
    → (k : Acts b c u v) → IsTurn b c k.entries turn.Goes
    → (made : Acts a c t v) × ((gap n : ℕ) → Leads gap (AtStep n) made.entries (AtStep n)) × (ticks_in made.entries ≡ 0) × (i + 1 ≤ length made.entries)
steps_more a b c t u v i f leads ticks count k goes = (
  made_then a b c t u v f k,
  (λ gap n. leads_then gap (AtStep n) f.entries k.entries (AtStep n) (AtStep n) (leads gap n) (goes.0 gap n)),
  ticks_both f.entries k.entries ∙ (let x = goes.2 in omega (arith, ticks, x)),
  (let one = goes.1 in let l : length (f.entries ++ k.entries) ≡ length f.entries + length k.entries = length-append f.entries k.entries in omega (arith, one, count, l)),
)

-- and ends it, or cuts it
pub steps_ended : (a b c : Acting) (t u v : Told) (f : Acts a b t u) → ((gap n : ℕ) → Leads gap (AtStep n) f.entries (AtStep n)) → ticks_in f.entries ≡ 0 → (k : Acts b c u v)
    → IsTurn b c k.entries turn.Ended → (made : Acts a c t v) × AreSteps a c made.entries true
steps_ended a b c t u v f leads ticks k ended = (
  made_then a b c t u v f k,
  ((λ gap n. leads_then gap (AtStep n) f.entries k.entries (AtStep n) (AtTick (n - 1)) (leads gap n) (ended.0 gap n)), ticks_both f.entries k.entries ∙ (let x = ended.1 in omega (arith, ticks, x))),
)

pub steps_cut : (a b c : Acting) (t u v : Told) (f : Acts a b t u) → ((gap n : ℕ) → Leads gap (AtStep n) f.entries (AtStep n)) → (k : Acts b c u v)
    → IsTurn b c k.entries turn.Cut → (made : Acts a c t v) × AreSteps a c made.entries false
steps_cut a b c t u v f leads k cut = (
  made_then a b c t u v f k,
  λ gap n. cut_then a b c gap (AtStep n) (AtStep n) f.entries k.entries (ap (λ (y : Acting). y.limit) f.same) (leads gap n) (cut gap n),
)

-- nothing yet
abbrev pub nothing : (a : Acting) (t : Told) → length a.own ≤ a.most → a.most ≤ a.limit + 1 → Acts a a t t
nothing a t seen within = record {
  entries = [];
  stepped = record { told = none_more t.steps; size = refl; place = refl };
  same = refl;
  own = sym (append-nil a.own);
  more = omega arith;
  seen = seen;
  within = within;
}
  where
    none_more : (o : Option (List WordStep)) → o ≡ with_steps o []
    none_more None = refl
    none_more (Some steps) = ap Some (sym (append-nil steps))

-- of one scan: the tick found no room, the begin found none, the steps were made
pub once_untimed : (a b : Acting) (t u : Told) (gap : ℕ) (f : Acts a b t u) → MakesOne a b f.entries (act.Tick gap) false → (made : Acts a b t u) × IsOneScan a b gap made.entries false
once_untimed a b t u gap f one = (f, λ n. (one.1, inl (AtTick (suc n), subst (λ xs. Leads gap (AtTick (suc n)) xs (AtTick (suc n))) (sym one.0) refl, refl)))

timed : (a b : Acting) (t u : Told) (gap n : ℕ) (f : Acts a b t u) → MakesOne a b f.entries (act.Tick gap) true → Leads gap (AtTick (suc n)) f.entries (AtBegin (suc n))
timed a b t u gap n f one = subst (λ xs. Leads gap (AtTick (suc n)) xs (AtBegin (suc n))) (sym one.1) (eq-eqb gap gap refl, refl)

begun : (b c : Acting) (u v : Told) (gap n : ℕ) (k : Acts b c u v) → MakesOne b c k.entries (act.File file.Scan) true → Leads gap (AtBegin (suc n)) k.entries (AtStep (suc n))
begun b c u v gap n k one = subst (λ xs. Leads gap (AtBegin (suc n)) xs (AtStep (suc n))) (sym one.1) (refl, refl)

limit_same : (a b : Acting) (t u : Told) → Acts a b t u → b.limit ≡ a.limit
limit_same a b t u f = ap (λ (y : Acting). y.limit) f.same

pub once_unbegun : (a b c : Acting) (t u v : Told) (gap : ℕ) (f : Acts a b t u) → MakesOne a b f.entries (act.Tick gap) true → (k : Acts b c u v) → MakesOne b c k.entries (act.File file.Scan) false
    → (made : Acts a c t v) × IsOneScan a c gap made.entries false
once_unbegun a b c t u v gap f one k two = (
  made_then a b c t u v f k,
  λ n. cut_then a b c gap (AtTick (suc n)) (AtBegin (suc n)) f.entries k.entries (limit_same a b t u f) (timed a b t u gap n f one)
      (two.1, inl (AtBegin (suc n), subst (λ xs. Leads gap (AtBegin (suc n)) xs (AtBegin (suc n))) (sym two.0) refl, refl)),
)

pub once_stepped : (a b c d : Acting) (t u v w : Told) (gap : ℕ) (q : Bool) (f : Acts a b t u) → MakesOne a b f.entries (act.Tick gap) true → (k : Acts b c u v) → MakesOne b c k.entries (act.File file.Scan) true
    → (x : Acts c d v w) → AreSteps c d x.entries q → (made : Acts a d t w) × IsOneScan a d gap made.entries q
once_stepped a b c d t u v w gap true f one k two x three = (
  made_then a c d t v w (made_then a b c t u v f k) x,
  (
    (λ n. leads_then gap (AtTick (suc n)) (f.entries ++ k.entries) x.entries (AtStep (suc n)) (AtTick n)
        (leads_then gap (AtTick (suc n)) f.entries k.entries (AtBegin (suc n)) (AtStep (suc n)) (timed a b t u gap n f one) (begun b c u v gap n k two))
        (subst (λ m. Leads gap (AtStep (suc n)) x.entries (AtTick m)) (less n) (three.0 gap (suc n)))),
    ticks_both (f.entries ++ k.entries) x.entries
        ∙ (let p = ticks_both f.entries k.entries in let q = ap ticks_in one.1 in let r = ap ticks_in two.1 in let z = three.1 in omega (arith, p, q, r, z)),
  ),
)
  where
    less : (n : ℕ) → suc n - 1 ≡ n
    less n = omega arith
once_stepped a b c d t u v w gap false f one k two x three = (
  made_then a c d t v w (made_then a b c t u v f k) x,
  λ n. cut_then a c d gap (AtTick (suc n)) (AtStep (suc n)) (f.entries ++ k.entries) x.entries (limit_same b c u v k ∙ limit_same a b t u f)
      (leads_then gap (AtTick (suc n)) f.entries k.entries (AtBegin (suc n)) (AtStep (suc n)) (timed a b t u gap n f one) (begun b c u v gap n k two)) (three gap (suc n)),
)

-- the scans of a round: one more, the last, and a cut
pub scans_more : (a b c : Acting) (t u v : Told) (scans gap i : ℕ) → i < scans → (f : Acts a b t u) → Leads gap (AtTick scans) f.entries (AtTick (scans - i)) → ticks_in f.entries ≡ i * gap
    → (k : Acts b c u v) → IsOneScan b c gap k.entries true
    → (made : Acts a c t v) × Leads gap (AtTick scans) made.entries (AtTick (scans - (i + 1))) × (ticks_in made.entries ≡ (i + 1) * gap)
scans_more a b c t u v scans gap i lt f leads ticks k one = (
  made_then a b c t u v f k,
  leads_then gap (AtTick scans) f.entries k.entries (AtTick (scans - i)) (AtTick (scans - (i + 1))) leads
      (subst (λ m. Leads gap (AtTick m) k.entries (AtTick (scans - (i + 1)))) (before scans i lt) (one.0 (scans - (i + 1)))),
  ticks_both f.entries k.entries ∙ (let x = one.1 in times (ticks_in f.entries) (ticks_in k.entries) i gap ticks x),
)
  where
    before : (s j : ℕ) → j < s → suc (s - (j + 1)) ≡ s - j
    before s j less = omega (arith, less)

    times : (x y j g : ℕ) → x ≡ j * g → y ≡ g → x + y ≡ (j + 1) * g
    times x y j g e h = omega (arith, e, h)

pub scans_cut : (a b c : Acting) (t u v : Told) (scans gap i : ℕ) → i < scans → (f : Acts a b t u) → Leads gap (AtTick scans) f.entries (AtTick (scans - i))
    → (k : Acts b c u v) → IsOneScan b c gap k.entries false → (made : Acts a c t v) × IsScan a c scans gap made.entries false
scans_cut a b c t u v scans gap i lt f leads k one =
    let cut = cut_then a b c gap (AtTick scans) (AtTick (scans - i)) f.entries k.entries (limit_same a b t u f) leads
    (subst (λ m. IsCut b c gap (AtTick m) k.entries) (before scans i lt) (one (scans - (i + 1)))) in
    (made_then a b c t u v f k, (cut.0, elim cut.1 [ inl there ↦ inl (leads_course gap (AtTick scans) (f.entries ++ k.entries) there.0 false there.1 there.2) | inr there ↦ inr there ]))
  where
    before : (s j : ℕ) → j < s → suc (s - (j + 1)) ≡ s - j
    before s j less = omega (arith, less)

pub scans_over : (a b : Acting) (t u : Told) (scans gap i : ℕ) → scans ≤ i → (f : Acts a b t u) → Leads gap (AtTick scans) f.entries (AtTick (scans - i)) → (made : Acts a b t u) × IsScan a b scans gap made.entries true
scans_over a b t u scans gap i le f leads =
    (f, leads_course gap (AtTick scans) f.entries (AtTick 0) true (subst (λ m. Leads gap (AtTick scans) f.entries (AtTick m)) (none scans i le) leads) refl)
  where
    none : (s j : ℕ) → s ≤ j → s - j ≡ 0
    none s j less = omega (arith, less)

-- there is room for one more gap
pub room_for_gap : (a b : Acting) (t u : Told) (scans gap i : ℕ) → i < scans → (f : Acts a b t u) → ticks_in f.entries ≡ i * gap → a.moment + ticks_in a.own + scans * gap ≤ 2 ^ 62
    → b.moment + ticks_in b.own + gap ≤ 2 ^ 62
room_for_gap a b t u scans gap i lt f ticks room =
    let moment : b.moment ≡ a.moment = ap (λ (y : Acting). y.moment) f.same in
    let own : ticks_in b.own ≡ ticks_in a.own + ticks_in f.entries = ap ticks_in f.own ∙ ticks_both a.own f.entries in
    let mul = one_more i scans gap lt in
    omega (arith, moment, own, ticks, mul, room)
  where
    le_split : (j s : ℕ) → j ≤ s → (j ≡ s) ⊎ (j < s)
    le_split zero zero le = inl refl
    le_split zero (suc s) le = inr (omega arith)
    le_split (suc j) zero le = absurd (omega (arith, le))
    le_split (suc j) (suc s) le = elim (le_split j s (omega (arith, le))) [ inl same ↦ inl (ap suc same) | inr below ↦ inr (omega (arith, below)) ]

    next : (s g : ℕ) → suc s * g ≡ s * g + g
    next s g = omega arith

    step : (j s g : ℕ) → (j ≡ s) ⊎ (j < s) → (j < s → j * g + g ≤ s * g) → j * g + g ≤ suc s * g
    step j s g (inl same) rest = let e = next s g in let h : j * g ≡ s * g = ap (λ x. x * g) same in omega (arith, e, h)
    step j s g (inr below) rest = let e = next s g in let h = rest below in omega (arith, e, h)

    one_more : (j s g : ℕ) → j < s → j * g + g ≤ s * g
    one_more j zero g less = absurd (omega (arith, less))
    one_more j (suc s) g less = step j s g (le_split j s (omega (arith, less))) (one_more j s g)

-- before the first scan
pub none_made : (scans : ℕ) → AtTick scans ≡ AtTick (scans - 0)
none_made scans = ap AtTick (same scans)
  where
    same : (n : ℕ) → n ≡ n - 0
    same n = omega arith
