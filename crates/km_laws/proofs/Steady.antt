use Rattle.std.proofs.Common.{◌≡◌, ℕ, suc, ◌+◌, ◌-◌, ◌*◌, ◌/◌, ◌==◌, inl, inr, Bool, true, false, List, [], ◌∷◌, length, Option, Some, None, map, refl, sym, ◌∙◌, ap, subst, arith, eqb-true, if◌then◌else◌}
use Rattle.std.specs.Prelude.{slice_index}
use Rattle.km_laws.specs.Soundness.{IsValueAt, AreFound}
use Rattle.km_laws.proofs.Lists.{In, map_in}
use Rattle.km_base.specs.declared.acts.Act.{Act}
use Rattle.km_base.specs.declared.acts.Act.TheVariants.{Step}
use Rattle.km_base.specs.declared.acts.Answer.{Answer}
use Rattle.km_base.specs.declared.acts.Answer.TheVariants.{Loaded, Ended, Refused}
use Rattle.km_base.specs.declared.acts.Refusal.TheVariants.{NoScanRunning}
use Rattle.km_model.specs.History.{History}
use Rattle.km_model.specs.Memory.{base, memory_after, word_at}
use Rattle.km_model.specs.Blocks.{option_is}
use Rattle.km_model.specs.Past.{Past, Place, ScanLoad, loads, with_load, scans, running_scan, begins, since_begin, history_of}
use Rattle.km_model.specs.Scan.{next, scan_load, load_of}
use Rattle.km_model.specs.Verdict.{new_blocks}
use Rattle.km_model.specs.Answers.{answer}
use Rattle.km_model.specs.Follows.{FollowsMemory, past_of, run_of, told_answer}
use Rattle.km_model.specs.Held.{still_steady, steady_from, steady_words}
use Rattle.km_model.proofs.Cases.{none_some, some_same}

pub history_same : (h : History) → history_of (past_of h) ≡ h
history_same [] = refl
history_same (e ∷ h) = ap (λ g. e ∷ g) (history_same h)

-- a value that stays steady is the further memory's too
still_both : (a : ℕ) (os : List (Option ℕ)) (ws : List ℕ) (w u : ℕ) → IsValueAt a (still_steady os ws) w u → IsValueAt a os w u × IsValueAt a (map Some ws) w u
still_both a [] ws w u i = absurd i
still_both a (o ∷ os) [] w u i = absurd i
still_both a (o ∷ os) (x ∷ ws) w u (inl here) = go o here.1
  where
    go : (p : Option ℕ) → (if option_is p x then p else None) ≡ Some u → IsValueAt a (p ∷ os) w u × IsValueAt a (map Some (x ∷ ws)) w u
    go None e = absurd (none_some u e)
    go (Some m) e =
        elim (m == x) as (λ q. (m == x) ≡ q → (if q then Some m else None) ≡ Some u → IsValueAt a (Some m ∷ os) w u × IsValueAt a (map Some (x ∷ ws)) w u) [
          | true ↦ λ same f. (inl (here.0, f), inl (here.0, ap Some (sym (eqb-true m x same)) ∙ f))
          | false ↦ λ _ f. absurd (none_some u f)
        ] refl e
still_both a (o ∷ os) (x ∷ ws) w u (inr later) = let rest = still_both (a + 8) os ws w u later in (inr rest.0, inr rest.1)

steady_all : (a : ℕ) (os : List (Option ℕ)) (memories : List (List ℕ)) (w u : ℕ) → IsValueAt a (steady_from os memories) w u
    → IsValueAt a os w u × ((m : List ℕ) → In m memories → IsValueAt a (map Some m) w u)
steady_all a os [] w u i = (i, λ m j. absurd j)
steady_all a os (x ∷ memories) w u i =
    let rest = steady_all a (still_steady os x) memories w u i in
    let both = still_both a os x w u rest.0 in
    (both.0, λ m j. elim j [ inl same ↦ subst (λ y. IsValueAt a (map Some y) w u) (sym same) both.1 | inr k ↦ rest.1 m k ])

-- a value of a memory is its word
value_index : (a : ℕ) (m : List ℕ) (w u : ℕ) → IsValueAt a (map Some m) w u → (i : ℕ) × (w ≡ a + 8 * i) × (slice_index m i ≡ u)
value_index a [] w u i = absurd i
value_index a (x ∷ m) w u (inl here) = (0, omega (arith, here.0), some_same x u here.1)
value_index a (x ∷ m) w u (inr later) = let rest = value_index (a + 8) m w u later in (suc rest.0, omega (arith, rest.1), rest.2)

index_is : (z w i : ℕ) → w ≡ z + 8 * i → (w - z) / 8 ≡ i
index_is z w i e = omega (arith, e)

value_word_at : (m : List ℕ) (w u : ℕ) → IsValueAt base (map Some m) w u → word_at m w ≡ u
value_word_at m w u i =
    let at = value_index base m w u i in
    ap (slice_index m) (index_is base w at.0 at.1) ∙ at.2

abbrev memory_of : ℕ → Past → List ℕ
memory_of words p = memory_after words (history_of p)

-- where a load was made, the history before it
abbrev IsLoadOf : ℕ → History → ScanLoad → Type 0
IsLoadOf words h l = ((k : ℕ) × (running_scan (past_of h) ≡ Some k)) × (l.value ≡ word_at (memory_after words h) l.place.word)

load_told : (words : ℕ) (h : History) (act : Act) (given : Answer) (l : ScanLoad) → given ≡ told_answer (run_of words h) act → load_of (past_of h) act given ≡ Some l → IsLoadOf words h l
unfolding answer
load_told words h Step (Loaded a v) l is made = go (running_scan (past_of h)) (next (past_of h)) refl is made
  where
    past : Past
    past = past_of h

    refused_no : (r : _) → Loaded a v ≡ Refused r → ⊥
    refused_no r e = cc

    ended_no : (k n : ℕ) → Loaded a v ≡ Ended k n → ⊥
    ended_no k n e = cc

    value_is : (b u : ℕ) → Loaded a v ≡ Loaded b u → v ≡ u
    value_is b u e = cc

    go : (o : Option ℕ) (p : Option Place) → running_scan (past_of h) ≡ o
        → Loaded a v ≡ (elim o as (λ _. Answer) [
          | None ↦ Refused NoScanRunning
          | Some _ ↦ elim p as (λ _. Answer) [
            | None ↦ Ended (scans (past_of h)) (length (new_blocks (past_of h)))
            | Some place ↦ Loaded place.word (elim (elim p as (λ _. Option ℕ) [ None ↦ None | Some q ↦ Some q.word ]) as (λ _. ℕ) [ None ↦ 0 | Some b ↦ word_at (memory_after words h) b ])
          ]
        ])
        → (elim p as (λ _. Option ScanLoad) [ None ↦ None | Some place ↦ Some (scan_load (past_of h) place v) ]) ≡ Some l
        → IsLoadOf words h l
    go None p run e f = absurd (refused_no NoScanRunning e)
    go (Some k) None run e f = absurd (none_some l f)
    go (Some k) (Some place) run e f =
        let same : scan_load (past_of h) place v ≡ l = some_same (scan_load (past_of h) place v) l f in
        ((k, run), subst (λ (x : ScanLoad). x.value ≡ word_at (memory_after words h) x.place.word) same (value_is place.word (word_at (memory_after words h) place.word) e))
load_told words h _ _ l is made = absurd (none_some l made)

-- the present moment of a running scan is one of those since its begin
present : (h : History) (k : ℕ) → running_scan (past_of h) ≡ Some k → In (past_of h) (since_begin (past_of h))
present [] k e = absurd (none_some k e)
present (e ∷ h) k _ = go (begins e.act e.answer)
  where
    go : (q : Bool) → In (past_of (e ∷ h)) (elim q as (λ _. List Past) [ true ↦ past_of (e ∷ h) ∷ [] | false ↦ past_of (e ∷ h) ∷ since_begin (past_of h) ])
    go true = inl refl
    go false = inl refl

-- the value of each load is that of its word at a moment of the scan
loads_told : (words : ℕ) (h : History) → FollowsMemory words h → (l : ScanLoad) → In l (loads (past_of h))
    → (p : Past) × In p (since_begin (past_of h)) × (l.value ≡ word_at (memory_of words p) l.place.word)
loads_told words [] f l i = absurd i
loads_told words (e ∷ h) f l i =
    go (loads_told words h f.1) (begins e.act e.answer) (load_of (past_of h) e.act e.answer) (λ k made. load_told words h e.act e.answer k f.0 made) i
  where
    go : ((k : ScanLoad) → In k (loads (past_of h)) → (p : Past) × In p (since_begin (past_of h)) × (k.value ≡ word_at (memory_of words p) k.place.word))
        → (q : Bool) (o : Option ScanLoad) → ((k : ScanLoad) → o ≡ Some k → IsLoadOf words h k)
        → In l (elim q as (λ _. List ScanLoad) [ true ↦ [] | false ↦ with_load o (loads (past_of h)) ])
        → (p : Past) × In p (elim q as (λ _. List Past) [ true ↦ past_of (e ∷ h) ∷ [] | false ↦ past_of (e ∷ h) ∷ since_begin (past_of h) ]) × (l.value ≡ word_at (memory_of words p) l.place.word)
    go rest true o is j = absurd j
    go rest false None is j = let found = rest l j in (found.0, inr found.1, found.2)
    go rest false (Some k) is (inr j) = let found = rest l j in (found.0, inr found.1, found.2)
    go rest false (Some k) is (inl same) =
        let made = is l (ap Some (sym same)) in
        (past_of h, inr (present h made.0.0 made.0.1), subst (λ g. l.value ≡ word_at (memory_after words g) l.place.word) (sym (history_same h)) made.1)

found_all : (values : List (Option ℕ)) (ls : List ScanLoad) → ((l : ScanLoad) → In l ls → (u : ℕ) → IsValueAt base values l.place.word u → l.value ≡ u) → AreFound values ls
found_all values [] each = tt
found_all values (l ∷ ls) each = ((λ _ u at. each l (inl refl) u at), found_all values ls (λ k i. each k (inr i)))

-- over a told memory the loads find what is steady
pub steady_found : (words : ℕ) (h : History) (p : Past) → FollowsMemory words h
    → AreFound (steady_words (map (λ (q : Past). memory_after words (history_of q)) (p ∷ since_begin (past_of h)))) (loads (past_of h))
steady_found words h p follows =
    found_all (steady_words (map (memory_of words) (p ∷ since_begin (past_of h)))) (loads (past_of h)) (λ l i u at.
    let told = loads_told words h follows l i in
    let each = steady_all base (map Some (memory_of words p)) (map (memory_of words) (since_begin (past_of h))) l.place.word u at in
    told.2 ∙ value_word_at (memory_of words told.0) l.place.word u (each.1 (memory_of words told.0) (map_in (memory_of words) (since_begin (past_of h)) told.0 told.1)))
