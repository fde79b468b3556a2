-- Each line of a live script leads somewhere, so each live script has an output.
use Rattle.std.proofs.Common.{◌≡◌, ℕ, ◌+◌, List, [], ◌∷◌, ◌++◌, Ok, Err, Result, refl, sym, subst}
use Rattle.km_base.specs.declared.acts.Refusal.{Refusal}
use Rattle.km_base.specs.declared.lines.Command.{Command}
use Rattle.km_base.specs.declared.lines.Command.TheVariants.{Memory}
use Rattle.km_base.specs.declared.status.Status.{Status}
use Rattle.km_laws.proofs.Since.{follows_answered}
use Rattle.km_model.specs.Follows.{Run, first_run, past_of}
use Rattle.km_model.specs.Output.{Script, Fresh, Begun, Leads, is_fresh, line_text}
use Rattle.km_model.specs.Text.{not_a_command_text, refusal_text}
use Rattle.km_live_model.specs.declared.lines.LiveLine.{LiveLine}
use Rattle.km_live_model.specs.declared.lines.LiveLine.TheVariants as live
use Rattle.km_live_model.specs.Rounds.{Job, jobs_at}
use Rattle.km_live_model.specs.Threads.{Thread, end_at}
use Rattle.km_live_model.specs.Lives.{LeadsLive, LiveLineThen, LivePrints, LiveScript, RoundLeads, end_text}
use Rattle.km_schedules.specs.Schedules.{IsSoundRun}
use Rattle.km_schedules.proofs.Leads.{round_keeps}
use Rattle.km_schedules.proofs.Lines.{first_run_is_sound, line_keeps}
use Rattle.km_schedules.proofs.Serial.{round_is_there}
use Rattle.km_engine.specs.Steps.{IsFit}
use Rattle.km_engine.proofs.Totals.{makes}
use Rattle.km_live_engine.specs.Steps.{IsFitLine}
use Rattle.km_live_engine.proofs.Fit.{read_is_fit}
use Rattle.km_live_engine.proofs.Running.{led, read_in}

-- a script that has begun has a sound run
abbrev pub IsSound : Script → Type 0
IsSound Fresh = Unit {0}
IsSound (Begun run) = IsSoundRun run

command_sound : (s : Script) (c : Command) (next : Script) (text : List ℕ) → IsFit (is_fresh s) c → Leads s c next text → IsSound s → IsSound next
command_sound Fresh (Memory words) next text fit p sound = subst IsSound (sym p.0) (first_run_is_sound words fit)
command_sound Fresh _ next text fit p sound = absurd p
command_sound (Begun run) c next text fit p sound = subst IsSound (sym p.2) (line_keeps run c p.0 sound p.1).0

-- where a round leads, by its jobs or why there are none
abbrev pub ByRound : Run → Run → List ℕ → ℕ → ℕ → ℕ → Result (List Job) Refusal → Type 0
ByRound r r' out scans gap entries x =
    elim x as (λ _. Type 0) [ Err refusal ↦ (r' ≡ r) × (out ≡ refusal_text refusal) | Ok jobs ↦ RoundLeads r jobs scans gap entries r' out ]

by_round_sound : (r r' : Run) (out : List ℕ) (scans gap entries : ℕ) (x : Result (List Job) Refusal) → ByRound r r' out scans gap entries x → IsSoundRun r → IsSoundRun r'
by_round_sound r r' out scans gap entries (Err refusal) p sound = subst IsSoundRun (sym p.0) sound
by_round_sound r r' out scans gap entries (Ok jobs) p sound = (round_keeps r jobs scans gap entries r' out sound p).0

-- a line leads from a sound script to a sound one
pub line_sound : (s : Script) (threads : List Thread) (l : LiveLine) (next : Script) (text : List ℕ) → IsFitLine (is_fresh s) l → LeadsLive s threads l next text → IsSound s → IsSound next
line_sound s threads live.Blank next text fit p sound = subst IsSound (sym p.0) sound
line_sound s threads (live.Command c) next text fit p sound = command_sound s c next text fit p sound
line_sound Fresh threads (live.Round scans gap entries) next text fit p sound = absurd p
line_sound (Begun run) threads (live.Round scans gap entries) next text fit p sound =
    subst IsSound (sym p.2) (by_round_sound run p.0 text scans gap entries (jobs_at (past_of run.history) threads) p.1 sound)
line_sound s threads (live.Thread name) next text fit p sound = subst IsSound (sym p.0) sound
line_sound s threads live.End next text fit p sound = subst IsSound (sym p.0) sound
line_sound s threads (live.InThread j) next text fit p sound = subst IsSound (sym p.0) sound

-- a line leads somewhere
abbrev LeadsOn : Script → List Thread → LiveLine → Type 0
LeadsOn s threads l = (next : Script) × (text : List ℕ) × LeadsLive s threads l next text

command_leads : (s : Script) (c : Command) → IsFit (is_fresh s) c → IsSound s → (next : Script) × (text : List ℕ) × Leads s c next text
command_leads Fresh (Memory words) fit sound = (Begun (first_run words), [], (refl, refl))
command_leads Fresh _ fit sound = absurd fit
command_leads (Begun run) c fit sound =
    let made = makes run c (follows_answered run.words run.history sound.follows) in (Begun made.0, line_text run c made.0, (made.0, made.1, refl, refl))

by_round : (r : Run) (scans gap entries : ℕ) (x : Result (List Job) Refusal) → IsSoundRun r → (r' : Run) × (out : List ℕ) × ByRound r r' out scans gap entries x
by_round r scans gap entries (Err refusal) sound = (r, refusal_text refusal, (refl, refl))
by_round r scans gap entries (Ok jobs) sound = round_is_there r jobs scans gap entries sound

leads : (s : Script) (threads : List Thread) (l : LiveLine) → IsFitLine (is_fresh s) l → IsSound s → LeadsOn s threads l
leads s threads live.Blank fit sound = (s, [], (refl, refl))
leads s threads (live.Command c) fit sound = command_leads s c fit sound
leads Fresh threads (live.Round scans gap entries) fit sound = absurd (let bad = fit.0 in let z : ⊥ = cc in z)
leads (Begun run) threads (live.Round scans gap entries) fit sound =
    let made = by_round run scans gap entries (jobs_at (past_of run.history) threads) sound in (Begun made.0, made.1, (made.0, made.2, refl))
leads s threads (live.Thread name) fit sound = (s, [], (refl, refl))
leads s threads live.End fit sound = (s, [], (refl, refl))
leads s threads (live.InThread j) fit sound = (s, [], (refl, refl))

-- so do several lines
pub prints : (otherwise : Status) (ls : List (List ℕ)) (s : LiveScript) (n : ℕ) → IsSound s.script → (end : LiveScript) × (out : List ℕ) × LivePrints otherwise s n ls end out
prints otherwise [] s n sound = (s, end_text (end_at otherwise s.threads n), (refl, refl))
prints otherwise (l ∷ ls) s n sound =
    elim (read_in s l) as (λ r. read_in s l ≡ r → (end : LiveScript) × (out : List ℕ) × LiveLineThen r s n (λ between e o. LivePrints otherwise between (n + 1) ls e o) end out) [
      | Err e ↦ λ read. (s, not_a_command_text n e.column, (refl, refl))
      | Ok x ↦ λ read.
          let fit = read_is_fit (is_fresh s.script) s.threads l x read in
          let next = leads s.script s.threads.standing x fit sound in
          let rest = prints otherwise ls (led s x next.0) (n + 1) (line_sound s.script s.threads.standing x next.0 next.1 fit next.2 sound) in
          (rest.0, next.1 ++ rest.1, (next.0, next.1, rest.1, next.2, rest.2, refl))
    ] refl
