use Rattle.std.proofs.Common.{◌≡◌, ◌==◌, ◌∷◌, [], List, ℕ, true, false, Option, Some, None, is_none, arith, ap, sym, subst, ◌∙◌, refl, eq-eqb}
use Rattle.std.proofs.lemmas.Bool.Decides.{nat_tests}
use Rattle.km_entries.specs.declared.lines.JournalLine.TheVariants as line
use Rattle.km_entries.specs.File.{Going, are_none, going_verdict}
use Rattle.km_track.specs.Tracker.{Live, Tracker, is_id, live_with, tracked_of}
use Rattle.km_journal.specs.declared.replay.Judged.TheVariants as judged
use Rattle.km_journal.specs.Replays.{Judges, Owes, starts_in}
use Rattle.km_journal.proofs.Judging.{judged_other, listed_right, nil_of}
use Rattle.km_journal.proofs.Listed.{Due, due, found_live, none_owed}
use Rattle.km_journal.proofs.replay.Replay.listed.Goals as goal

start_is : (x y : Live) → Some x ≡ Some y → x.tracked.block.start ≡ y.tracked.block.start
start_is x y e = let same : x ≡ y = cc in ap (λ (l : Live). l.tracked.block.start) same

other_start : (a b s : ℕ) → ¬ (s ≡ a) → s ≡ b → (a == b) ≡ false
other_start a b s n e = grind (arith, nat_tests)

pub returns-in_default : goal.returns-in_default
returns-in_default c = record {
  judges = λ words ns owed at.
      let r = c.args.self.now in
      let none = nil_of owed (sym (none_owed r.core.parts.objects.tracker r.owed owed (at.0).owes) ∙ ap is_none c.in_default.is) in
      subst (λ o. Judges (going_verdict words ns o (line.Listed c.args.start)) judged.Wrong (Some r)) (sym none) tt;
}

pub returns-in_default-record : goal.returns-in_default-record
returns-in_default-record c = record {
  judges = λ words ns owed at.
      let r = c.args.self.now in
      let t = c.track-track.result.now in
      let owes = subst (λ (x : Tracker). Owes x r.owed owed) (sym c.track-track.ensures) (at.0).owes in
      let d = due t r.owed owed c.in-Some.id owes c.in_default-record.ensures.rising c.in-Some.is in
      absurd (let e : None ≡ Some d.it = c.in_default-record.ensures.block ∙ d.found in let z : ⊥ = cc in z);
}

pub returns-then-record-start : goal.returns-then-record-start
returns-then-record-start c = record {
  judges = λ words ns owed at.
      let r = c.args.self.now in
      let t = c.track-track.result.now in
      let owes = subst (λ (x : Tracker). Owes x r.owed owed) (sym c.track-track.ensures) (at.0).owes in
      let d = due t r.owed owed c.in-Some.id owes c.in-Some-record.ensures.rising c.in-Some.is in
      let is = start_is _ d.it (c.in-Some-record.ensures.block ∙ d.found) in
      subst (λ o. Judges (going_verdict words ns o (line.Listed c.args.start)) judged.Wrong (Some r)) (sym d.starts)
      (judged_other (c.args.start == d.it.tracked.block.start) (Going words ns (starts_in d.more)) (Some r) (other_start c.args.start d.it.tracked.block.start _ c.if-record-start.true is));
}

pub next_listed-self-requires : goal.next_listed-self-requires
next_listed-self-requires c = found_live (is_id c.in-Some.id) c.track-track.result.now.live _ (sym c.in-Some-record.ensures.block)

pub returns : goal.returns
returns c = record {
  judges = λ words ns owed at.
      let r = c.args.self.now in
      let stood = at.0 in
      let t = c.track-track.result.now in
      let owes = subst (λ (x : Tracker). Owes x r.owed owed) (sym c.track-track.ensures) stood.owes in
      let d = due t r.owed owed c.in-Some.id owes c.in-Some-record.ensures.rising c.in-Some.is in
      let is = start_is _ d.it (c.in-Some-record.ensures.block ∙ d.found) in
      let next = c.next_listed-self.result in
      let after = subst (λ (x : Tracker). Owes x next (starts_in d.more)) c.track-track.ensures (d.after next c.next_listed-self.ensures) in
      listed_right _ words ns owed (starts_in d.more) d.it.tracked.block.start c.args.start d.starts (eq-eqb c.args.start d.it.tracked.block.start (sym c.if-record-start.false ∙ is))
      (record { state = stood.state; stands = stood.stands; size = stood.size; scans = stood.scans; owes = after }, at.1);
}
