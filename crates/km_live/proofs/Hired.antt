-- Mutators as they are hired, and what they leave when they have run.
use Rattle.std.proofs.Common.{◌≡◌, ℕ, zero, suc, ◌+◌, ◌≤◌, ◌<◌, ◌||◌, Bool, true, false, List, [], ◌∷◌, ◌++◌, length, map, get_or, Some, All, refl, sym, ◌∙◌, ap, subst, arith}
use Rattle.std.specs.List.{AllZip, list_any}
use Rattle.std.proofs.lemmas.Bool.{both_ways}
use Rattle.std.proofs.lemmas.List.Elements.{All-cons, All-nil}
use Rattle.atomic_table.specs.Seated.{TableId}
use Rattle.km_words.specs.Told.{WordStep}
use Rattle.km_rounds.specs.Journals.{Journal, loads_in}
use Rattle.km_live_model.specs.Courses.{Course, Mutator}
use Rattle.km_live_model.specs.Rounds.{mutator_of}
use Rattle.km_live_words.specs.Hands.{HandOn, Opened}
use Rattle.km_live_map.specs.Views.{TokenOf}
use Rattle.km_workers.specs.Workers.{Acting}
use Rattle.km_live_workers.specs.declared.workers.Job.{Job as Task}
use Rattle.km_live_workers.specs.AtBooks.{limit_of}
use Rattle.km_live_workers.specs.Jobs.{job_of}
use Rattle.km_live_workers.specs.Runs.{HasRun, HasScanned, IsReady, Working}
use Rattle.km_live_workers.specs.Seats.{newly_on}
use Rattle.km_live_workers.specs.declared.seats.Chief.{Chief}
use Rattle.km_live.specs.Crews.{About, AreSitting, AreWaiting, IsFor, Sits, WereTakenIn, hired, hired_for, left_job, left_of, new_token}
use Rattle.km_live.specs.Left.{HasLeft, HaveLeft, IsScanned, ends_of}
use Rattle.km_live.specs.Made.{with_ends}

-- what told steps tell, where none were made before
own_steps : (own steps : List WordStep) → Some own ≡ Some ([] ++ steps) → own ≡ steps
own_steps own steps e = cc

module _ (live : Opened) (baton : TableId) (about : About) where
  -- one more
  pub hired_more : (k : ℕ) (jobs : List Task) (job : Task) → hired live baton about k (jobs ++ job ∷ []) ≡ hired live baton about k jobs ++ hired_for live baton about (k + length jobs) job ∷ []
  hired_more k [] job = ap (λ n. hired_for live baton about n job ∷ []) (omega arith)
  hired_more k (x ∷ jobs) job =
      let same : k + 1 + length jobs ≡ k + suc (length jobs) = omega arith in
      ap (λ ws. hired_for live baton about k x ∷ ws)
      (hired_more (k + 1) jobs job ∙ ap (λ n. hired live baton about (k + 1) jobs ++ hired_for live baton about n job ∷ []) same)

  -- each may begin
  pub all_ready : IsFor live about → (k : ℕ) (jobs : List Task) → All IsReady (hired live baton about k jobs)
  all_ready for k [] = All-nil IsReady
  all_ready for k (job ∷ jobs) = All-cons IsReady (hired_for live baton about k job) (hired live baton about (k + 1) jobs) (record { words = for.0; full = λ is. absurd (both_ways false refl is) }) (all_ready for (k + 1) jobs)

  -- one that has run leaves the course of its job
  pub has_left : (k : ℕ) (job : Task) (w : Working) → HasRun (hired_for live baton about k job) w → HasLeft (length live.words) (limit_of about) k (job_of job) (left_of w)
  has_left k job w r =
      let f = r.course in
      let steps = own_steps w.words.hand.hand.own f.steps f.stepped.told in
      let limit : limit_of w.book.view.about ≡ limit_of about = ap (λ (a : Acting). a.limit) f.same in
      record {
        course =
            subst (λ xs. Course (length live.words) k (mutator_of (job_of job)) job.lines.items xs w.book.view.member.own w.stand) (sym steps)
            (subst (λ es. Course (length live.words) k (mutator_of (job_of job)) job.lines.items f.steps es w.stand) (sym f.own) f.course);
        full = λ is. subst (λ n. n ≤ w.book.view.most) limit (r.full is);
      }

  -- it sits where it sat
  pub sits : (k : ℕ) (job : Task) (w : Working) → HasRun (hired_for live baton about k job) w → Sits live baton k w
  sits k job w r = record { seat = record { hand = r.seat.words; token = r.seat.baton }; hand = r.seat.hand; token = r.seat.token }

  pub have_left : (k : ℕ) (jobs : List Task) (ws : List Working) → AllZip HasRun (hired live baton about k jobs) ws → HaveLeft (length live.words) (limit_of about) k (map job_of jobs) (map left_of ws)
  have_left k [] [] ran = tt
  have_left k [] (w ∷ ws) ran = absurd ran
  have_left k (job ∷ jobs) [] ran = absurd ran
  have_left k (job ∷ jobs) (w ∷ ws) ran = (has_left k job w ran.0, have_left (k + 1) jobs ws ran.1)

  pub all_sit : (k : ℕ) (jobs : List Task) (ws : List Working) → AllZip HasRun (hired live baton about k jobs) ws → AreSitting live baton k ws
  all_sit k [] [] ran = tt
  all_sit k [] (w ∷ ws) ran = absurd ran
  all_sit k (job ∷ jobs) [] ran = absurd ran
  all_sit k (job ∷ jobs) (w ∷ ws) ran = (sits k job w ran.0, all_sit (k + 1) jobs ws ran.1)

  -- there are as many
  pub as_many_ran : (k : ℕ) (jobs : List Task) (ws : List Working) → AllZip HasRun (hired live baton about k jobs) ws → length ws ≡ length jobs
  as_many_ran k [] [] ran = refl
  as_many_ran k [] (w ∷ ws) ran = absurd ran
  as_many_ran k (job ∷ jobs) [] ran = absurd ran
  as_many_ran k (job ∷ jobs) (w ∷ ws) ran = ap suc (as_many_ran (k + 1) jobs ws ran.1)

  -- their jobs have the registers with which they ended
  pub jobs_left : (k : ℕ) (jobs : List Task) (ws : List Working) → AllZip HasRun (hired live baton about k jobs) ws → map left_job ws ≡ with_ends (map job_of jobs) (ends_of (map left_of ws))
  jobs_left k [] [] ran = refl
  jobs_left k [] (w ∷ ws) ran = absurd ran
  jobs_left k (job ∷ jobs) [] ran = absurd ran
  jobs_left k (job ∷ jobs) (w ∷ ws) ran =
      let same = ran.0.job in
      let one : left_job w ≡ record { task = job.task; registers = w.stand.registers; lines = job.lines.items } = λ i. record { task = same.0 i; registers = w.stand.registers; lines = same.1 i } in
      let rest = jobs_left (k + 1) jobs ws ran.1 in
      λ i. one i ∷ rest i

-- the place of one of them tells its number
pub sits_at : (live : Opened) (baton : TableId) (k : ℕ) (ws : List Working) (n : ℕ) (w d : Working) → AreSitting live baton k ws → n < length ws → w ≡ get_or ws n d → Sits live baton (k + n) w
sits_at live baton k [] n w d all lt is = absurd (omega (arith, lt))
sits_at live baton k (x ∷ ws) zero w d all lt is = subst (λ y. Sits live baton (k + 0) y) (sym is) (subst (λ m. Sits live baton m x) (omega arith) all.0)
sits_at live baton k (x ∷ ws) (suc n) w d all lt is =
    let same : k + 1 + n ≡ k + suc n = omega arith in
    subst (λ m. Sits live baton m w) same (sits_at live baton (k + 1) ws n w d all.1 (omega (arith, lt)) is)

-- whether one of them left an act out
pub left_out : (ws : List Working) → list_any (λ (w : Working). w.stand.full) ws ≡ list_any (λ (m : Mutator). m.full) (ends_of (map left_of ws))
left_out [] = refl
left_out (w ∷ ws) = ap (λ q. w.stand.full || q) (left_out ws)

-- what the scanner leaves
pub has_scanned : (live : Opened) (baton : TableId) (about : About) (t : HandOn) (c : TokenOf) (scans gap : ℕ) (whole : Bool) → HasScanned (newly_on live 1) t (new_token baton about 1) c scans gap whole
    → (scanned : Journal) × (c.view.member.own ≡ scanned) × (t.hand.hand.own ≡ loads_in scanned) × IsScanned scans gap (limit_of about) scanned c.view.most whole
has_scanned live baton about t c scans gap true s = (s.made.entries, s.made.own, own_steps t.hand.hand.own (loads_in s.made.entries) s.made.stepped.told, s.scan)
has_scanned live baton about t c scans gap false s = (s.made.entries, s.made.own, own_steps t.hand.hand.own (loads_in s.made.entries) s.made.stepped.told, s.scan)

-- while mutators are hired for the first jobs
pub record Hiring (live : Opened) (baton : TableId) (about : About) (jobs first : List Task) (ws : List Working) (capacity next : ℕ) (chief : Chief) : Type 0 where
  pub waiting : AreWaiting live baton about (2 + length first) [] [] chief
  pub hired : ws ≡ hired live baton about 2 first
  pub many : length ws ≡ length first
  pub room : length jobs ≤ capacity
  pub number : next ≡ 2 + length first

-- while the first mutators are taken in
pub record Dismissing (live : Opened) (baton : TableId) (about : About) (next : ℕ) (steps : List (ℕ × List WordStep)) (entries : List (ℕ × Journal)) (ws first : List Working) (before chief : Chief)
    (done now : List Task) (capacity : ℕ) (told : Bool) : Type 0 where
  pub taken_in : WereTakenIn live baton about next steps entries first before chief
  pub jobs : map job_of now ≡ map job_of done ++ map left_job first
  pub many : length now ≡ length done + length first
  pub room : length done + length ws ≤ capacity
  pub full : told ≡ list_any (λ (w : Working). w.stand.full) first
