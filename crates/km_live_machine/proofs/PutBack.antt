-- Registers that are put back, job after job.
use Rattle.std.proofs.Common.{◌≡◌, ℕ, ◌+◌, ◌*◌, ◌<◌, ◌≤◌, List, [], ◌∷◌, ◌++◌, length, map, take, refl, sym, ◌∙◌, ap, subst, arith}
use Rattle.std.specs.Prelude.{flat_map, slice_index_or}
use Rattle.std.proofs.lemmas.Grind.{flat_map-append}
use Rattle.std.proofs.lemmas.List.{append-nil, take_all, take_more}
use Rattle.km_base.specs.declared.acts.Act.{Act}
use Rattle.km_model.specs.Follows.{Run, all_happen}
use Rattle.km_live_model.specs.Courses.{Mutator}
use Rattle.km_live_model.specs.Rounds.{Job}
use Rattle.km_live_model.specs.Lives.{all_register_acts, register_acts}
use Rattle.km_live_workers.specs.declared.workers.Job.{Job as Task}
use Rattle.km_live.specs.Made.{with_ends}
use Rattle.km_live_workers.specs.Jobs.{job_of}
use Rattle.km_machine.specs.Machines.{For, HasRoom, Simulation, Spent}
use Rattle.km_machine.proofs.Lines.{happen_append}
use Rattle.km_machine.proofs.Rooms.{room_left, spent_more, spent_none}
use Rattle.km_live_machine.specs.RoundRuns.{acts_of_jobs}

-- the registers of a job become its task's
abbrev pub acts_of : Task → List Act
acts_of t = register_acts t.task t.regs

acts_next : (jobs : List Task) (i : ℕ) (d : Task) → i < length jobs → acts_of_jobs (take (i + 1) jobs) ≡ acts_of_jobs (take i jobs) ++ acts_of (slice_index_or jobs i d)
acts_next jobs i d low =
    ap acts_of_jobs (take_more jobs i d low) ∙ flat_map-append acts_of (take i jobs) (slice_index_or jobs i d ∷ [])
    ∙ ap (λ ys. acts_of_jobs (take i jobs) ++ ys) (append-nil (acts_of (slice_index_or jobs i d)))

-- those of the first jobs were put back
pub record Restored (jobs : List Task) (i : ℕ) (m m' : Simulation) : Type 0 where
  pub happens : (run : Run) → For m run → For m' (all_happen run (acts_of_jobs (take i jobs)))
  pub spent : Spent m m' (4 * i) 0

pub put_none : (jobs : List Task) (m : Simulation) → Restored jobs 0 m m
put_none jobs m = record { happens = λ run stands. stands; spent = spent_none m }

module _ (jobs : List Task) (i : ℕ) (x : Task) (m a b : Simulation) (p : Restored jobs i m a) (low : i < length jobs) where
  -- there is room for the next
  pub room_next : HasRoom m (4 * length jobs) 0 → HasRoom a 4 0
  room_next room = room_left m a (4 * i) 4 0 0 (4 * length jobs) 0 room p.spent (omega (arith, low)) (omega arith)

  pub put_more : x ≡ slice_index_or jobs i x → ((run : Run) → For a run → For b (all_happen run (acts_of x))) → Spent a b 4 0 → Restored jobs (i + 1) m b
  put_more is happens spent = record {
    happens = λ run stands.
        subst (λ acts. For b (all_happen run acts)) (sym (acts_next jobs i x low ∙ ap (λ y. acts_of_jobs (take i jobs) ++ acts_of y) (sym is)))
        (subst (λ r. For b r) (sym (happen_append run (acts_of_jobs (take i jobs)) (acts_of x))) (happens (all_happen run (acts_of_jobs (take i jobs))) (p.happens run stands)));
    spent = spent_more m a b (4 * i) 4 0 0 (4 * (i + 1)) 0 p.spent spent (omega arith) (omega arith);
  }

-- all were
pub put_all : (jobs : List Task) (i : ℕ) (m a : Simulation) → Restored jobs i m a → length jobs ≤ i → (run : Run) → For m run → For a (all_happen run (acts_of_jobs jobs))
put_all jobs i m a p all run stands = subst (λ xs. For a (all_happen run (acts_of_jobs xs))) (take_all i jobs all) (p.happens run stands)

-- the same of jobs as the definitions see them
acts_in : List Job → List Act
acts_in jobs = flat_map (λ (j : Job). register_acts j.task j.registers) jobs

mapped : (tasks : List Task) → acts_of_jobs tasks ≡ acts_in (map job_of tasks)
unfolding acts_in
mapped [] = refl
mapped (t ∷ tasks) = ap (λ xs. acts_of t ++ xs) (mapped tasks)

ended : (jobs : List Job) (ends : List Mutator) → acts_in (with_ends jobs ends) ≡ all_register_acts jobs ends
unfolding acts_in
ended [] ends = refl
ended (job ∷ jobs) [] = refl
ended (job ∷ jobs) (m ∷ ends) = ap (λ xs. register_acts job.task m.registers ++ xs) (ended jobs ends)

-- the jobs with the registers with which their mutators ended put those back
pub acts_told : (jobs : List Job) (ends : List Mutator) (done : List Task) → map job_of done ≡ with_ends jobs ends → acts_of_jobs done ≡ all_register_acts jobs ends
acts_told jobs ends done is = mapped done ∙ ap acts_in is ∙ ended jobs ends

-- they are no more than the jobs
with_ends_few : (jobs : List Job) (ends : List Mutator) → length (with_ends jobs ends) ≤ length jobs
with_ends_few [] ends = omega arith
with_ends_few (job ∷ jobs) [] = omega arith
with_ends_few (job ∷ jobs) (m ∷ ends) = let few = with_ends_few jobs ends in omega (arith, few)

length_mapped : (tasks : List Task) → length (map job_of tasks) ≡ length tasks
length_mapped [] = refl
length_mapped (t ∷ tasks) = let same = length_mapped tasks in omega (arith, same)

pub few_done : (tasks done : List Task) (ends : List Mutator) → map job_of done ≡ with_ends (map job_of tasks) ends → length done ≤ length tasks
few_done tasks done ends is =
    let few = with_ends_few (map job_of tasks) ends in
    let same = length_mapped done in let told = length_mapped tasks in
    let e = ap (λ (js : List Job). length js) is in
    omega (arith, few, same, told, e)
