-- Journals that are one entry longer.
use Rattle.std.proofs.Common.{◌≡◌, ℕ, zero, suc, ◌+◌, List, [], ◌∷◌, ◌++◌, length, slice_get, Some, sym, refl, ap, ◌∙◌, subst, arith}
use Rattle.std.proofs.lemmas.List.Sums.{sum_by-append}
use Rattle.km_base.specs.declared.acts.Act.TheVariants.{Halt}
use Rattle.km_core.specs.Cores.{Seen, Stands}
use Rattle.km_model.specs.History.{History, ticks_of}
use Rattle.km_state.specs.State.{State}
use Rattle.km_state.specs.StateAfter.{state_after}
use Rattle.km_rounds.specs.declared.entry.Entry.{Entry}
use Rattle.km_rounds.specs.Journals.{event_of, with_journal, ticks_in, FollowsOn}
use Rattle.km_live_map.specs.Books.{IsBook, IsCoreFor}

pub with_snoc : (h : History) (j : List Entry) (e : Entry) → with_journal h (j ++ e ∷ []) ≡ event_of e ∷ with_journal h j
with_snoc h [] e = refl
with_snoc h (x ∷ xs) e = with_snoc (event_of x ∷ h) xs e

plain : (n : ℕ) → 0 + n ≡ n
plain n = omega arith

pub ticks_snoc : (j : List Entry) (e : Entry) → ticks_in (j ++ e ∷ []) ≡ ticks_in j + ticks_of e.act
ticks_snoc j e = sum_by-append (λ (x : Entry). ticks_of x.act) j (e ∷ []) ∙ ap (λ (n : ℕ). ticks_in j + n) (plain (ticks_of e.act))

-- for each history for which the opening state stands, the journal follows it, and the core stands for it with the journal
abbrev pub FollowsFrom : Seen → Seen → List Entry → Type 0
FollowsFrom opening core j = (h : History) → IsCoreFor opening h → FollowsOn opening.parts.words h j × IsCoreFor core (with_journal h j)

pub acted : (opening core new : Seen) (j : List Entry) (e : Entry) → FollowsFrom opening core j → core.parts.words ≡ opening.parts.words → new.parts.words ≡ core.parts.words
    → ((h : History) (s : State) → Stands core h s → Stands new (event_of e ∷ h) (state_after s e.act e.answer)) → FollowsFrom opening new (j ++ e ∷ [])
acted opening core new j e old same kept step h is =
    let k = old h is in
    let s : State = state_after k.1.0 e.act e.answer in
    let now : Stands new (with_journal h (j ++ e ∷ [])) s = subst (λ (l : History). Stands new l s) (sym (with_snoc h j e)) (step (with_journal h j) k.1.0 k.1.1) in
    (subst (λ (n : ℕ). FollowsOn n h (j ++ e ∷ [])) (kept ∙ same) now.follows, (s, now))

-- an entry at the last place is a halt
pub last_halts : (j : List Entry) (e : Entry) (n : ℕ) → ((x : Entry) → slice_get j n ≡ Some x → x.act ≡ Halt) → (length j ≡ n → e.act ≡ Halt)
    → (x : Entry) → slice_get (j ++ e ∷ []) n ≡ Some x → x.act ≡ Halt
last_halts [] e zero old new x is = let same : e ≡ x = cc in ap (λ (y : Entry). y.act) (sym same) ∙ new refl
last_halts [] e (suc n) old new x is = absurd cc
last_halts (y ∷ ys) e zero old new x is = old x is
last_halts (y ∷ ys) e (suc n) old new x is = last_halts ys e n old (λ l. new (ap suc l)) x is

-- a book with an empty journal
pub newly : (core opening : Seen) (n : ℕ) (j : List Entry) → opening ≡ core → j ≡ [] → IsBook record { opening = opening; core = core; journal = j; entries = n }
newly core opening n j same empty =
    subst (λ (l : List Entry). IsBook record { opening = opening; core = core; journal = l; entries = n }) (sym empty)
    (subst (λ (o : Seen). IsBook record { opening = o; core = core; journal = []; entries = n }) (sym same)
    (record { follows = λ h s. (s.1.follows, s); room = omega arith; last = λ e there. absurd cc; words = refl; events = omega arith; now = omega arith }))
