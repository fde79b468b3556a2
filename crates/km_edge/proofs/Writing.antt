use Rattle.std.proofs.Common.{◌≡◌, ℕ, ◌+◌, ◌-◌, ◌≤◌, min, max, List, [], ◌++◌, length, take, drop, Option, Some, None, inl, inr, refl, ap, sym, subst, ◌∙◌, arith, append_assoc, length-append, length-drop}
use Rattle.std.proofs.lemmas.Bool.{cases_lt}
use Rattle.std.proofs.lemmas.List.{append-nil, length-take, take_rest}
use Rattle.std.proofs.Math.Seq.{take-add}
use Rattle.std.specs.Io.KnownBytes.{Keeps, Appends}
use Rattle.km_edge.specs.Streams.{SinkState, CameOut, Counts, Rose, StoppedAt, Wrote, greatest}

appends_none : (o : Option (List ℕ)) → Appends o o []
appends_none None = tt
appends_none (Some xs) = sym (append-nil xs)

appends_more : (a b c : Option (List ℕ)) (xs ys : List ℕ) → Appends a b xs → Appends b c ys → Appends a c (xs ++ ys)
appends_more None b c xs ys p q = tt
appends_more (Some a) None c xs ys p q = absurd p
appends_more (Some a) (Some b) None xs ys p q = absurd q
appends_more (Some a) (Some b) (Some c) xs ys p q = q ∙ ap (λ l. l ++ ys) p ∙ append_assoc a xs ys

keeps_appends : (a b : Option (List ℕ)) → Keeps a b → Appends a b []
keeps_appends None b k = tt
keeps_appends (Some a) None k = absurd k
keeps_appends (Some a) (Some b) k = k ∙ sym (append-nil a)

counts_none : (o : Option ℕ) → Counts o o 0
counts_none None = tt
counts_none (Some c) = ap Some (omega arith)

counts_more : (a b c : Option ℕ) (n m : ℕ) → Counts a b n → Counts b c m → Counts a c (n + m)
counts_more None b c n m p q = tt
counts_more (Some a) b c n m p q =
    let next : Counts (Some (max a (min (a + n) greatest))) c m = subst (λ o. Counts o c m) p q in
    next ∙ ap Some (omega arith)

-- nothing was written yet
pub wrote_none : (s : SinkState) → Wrote s s []
wrote_none s = record { appended = appends_none s.held; counted = counts_none s.count; faults_kept = refl }

-- what was written in two steps
pub wrote_more : (a b c : SinkState) (xs ys : List ℕ) → Wrote a b xs → Wrote b c ys → Wrote a c (xs ++ ys)
wrote_more a b c xs ys p q = record {
  appended = appends_more a.held b.held c.held xs ys p.appended q.appended;
  counted = subst (λ n. Counts a.count c.count n) (sym (length-append xs ys)) (counts_more a.count b.count c.count (length xs) (length ys) p.counted q.counted);
  faults_kept = omega (arith, p.faults_kept, q.faults_kept);
}

-- what was written came out
pub wrote_out : (a b : SinkState) (xs : List ℕ) → Wrote a b xs → CameOut a b xs
wrote_out a b xs w = record { appended = w.appended; counted = w.counted; faults_kept = omega (arith, w.faults_kept) }

-- some bytes were written, and then others came out
pub came_out_more : (a b c : SinkState) (xs ys : List ℕ) → Wrote a b xs → CameOut b c ys → CameOut a c (xs ++ ys)
came_out_more a b c xs ys p q = record {
  appended = appends_more a.held b.held c.held xs ys p.appended q.appended;
  counted = subst (λ n. Counts a.count c.count n) (sym (length-append xs ys)) (counts_more a.count b.count c.count (length xs) (length ys) p.counted q.counted);
  faults_kept = omega (arith, p.faults_kept, q.faults_kept);
}

-- a count that rose behind one that never falls
pub rose_later : (f f' f'' : ℕ) → f ≤ f' → f' ≤ f'' → Rose f' f'' → Rose f f''
rose_later f f' f'' p q (inl h) = inl (omega (arith, h))
rose_later f f' f'' p q (inr h) = elim (cases_lt f f'') as (λ _. Rose f f'') [ inl less ↦ inl less | inr more ↦ inr (omega (arith, h, p, q, more)) ]

-- one write more
pub wrote_next : (a b c : SinkState) (bytes : List ℕ) (at n : ℕ) → at ≤ length bytes
    → n ≤ length (take (length bytes - at) (drop at bytes))
    → Wrote a b (take at bytes) → Appends b.held c.held (take n (take (length bytes - at) (drop at bytes))) → Counts b.count c.count n → c.faults ≡ b.faults
    → (at + n ≤ length bytes) × Wrote a c (take (at + n) bytes)
wrote_next a b c bytes at n within fits wrote appended counted kept =
    let rest : take (length bytes - at) (drop at bytes) ≡ drop at bytes = take_rest bytes at in
    let fits' : n ≤ length bytes - at = omega (arith, fits, ap length rest, length-drop at bytes) in
    let size : n ≡ length (take n (drop at bytes)) = omega (arith, length-take n (drop at bytes), length-drop at bytes, fits') in (
      omega (arith, fits', within),
      subst (λ xs. Wrote a c xs) (sym (take-add at n bytes))
          (wrote_more a b c (take at bytes) (take n (drop at bytes)) wrote
          (record { appended = subst (λ xs. Appends b.held c.held (take n xs)) rest appended; counted = subst (λ m. Counts b.count c.count m) size counted; faults_kept = kept })),
    )

-- a write failed after the first of these bytes
pub stopped_at : (a b c : SinkState) (bytes : List ℕ) (at : ℕ) → at ≤ length bytes → Wrote a b (take at bytes) → Keeps b.held c.held → Counts b.count c.count 0
    → b.faults ≤ c.faults → Rose b.faults c.faults → StoppedAt a c bytes at
stopped_at a b c bytes at within wrote kept counted grown rose = record {
  within = within;
  came_out =
      subst (λ xs. CameOut a c xs) (append-nil (take at bytes))
      (came_out_more a b c (take at bytes) [] wrote (record { appended = keeps_appends b.held c.held kept; counted = counted; faults_kept = grown }));
  rose = rose_later a.faults b.faults c.faults (omega (arith, wrote.faults_kept)) grown rose;
}
