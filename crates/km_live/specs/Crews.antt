-- The first hand and the first token of a round, its mutators as they are hired, and what all workers leave.
use Rattle.std.specs.Prelude.{◌≡◌, ℕ, ◌+◌, ◌≤◌, Bool, false, List, [], ◌∷◌, length, map, Option}
use Rattle.atomic_table.specs.Seated.{TableId}
use Rattle.km_core.specs.Cores.{Seen}
use Rattle.km_model.specs.Members.{Each}
use Rattle.km_numbered.specs.Members.{Member, fresh}
use Rattle.km_words.specs.Told.{WordStep}
use Rattle.km_rounds.specs.Journals.{Journal}
use Rattle.km_live_model.specs.Rounds.{Job}
use Rattle.km_live_words.specs.Hands.{Opened}
use Rattle.km_live_map.specs.Views.{TokenOf}
use Rattle.km_workers.specs.Workers.{standing}
use Rattle.km_live_workers.specs.declared.seats.Chief.{Chief}
use Rattle.km_live_workers.specs.declared.workers.Job.{Job as Task}
use Rattle.km_live_workers.specs.AtBooks.{IsBegunAs, limit_of, words_of}
use Rattle.km_live_workers.specs.Jobs.{job_of}
use Rattle.km_live_workers.specs.Runs.{Working}
use Rattle.km_live_workers.specs.Seats.{IsSeated, newly_on}
use Rattle.km_live.specs.Left.{HaveLeft, IsScanned, Left, ends_of, is_cut_short, kept_entries, kept_steps, taken_in}
use Rattle.km_live.specs.Made.{with_ends}

-- the first member, which has done nothing: the number that the next new one gets, and what it keeps of others
abbrev pub waiting : {A : Type 0} → ℕ → List (ℕ × List A) → Member A
waiting next kept = record { number = 0; own = []; next = next; kept = kept; spent = false }

-- what is known of the book at its begin
abbrev pub About : Type 0
About = Option (Seen × ℕ)

-- a token of this number that has made no entry
abbrev pub new_token : TableId → About → ℕ → TokenOf
new_token baton about k = record { baton = baton; view = record { member = fresh k; most = 0; holding = false; taken = []; about = about } }

-- the first hand and the first token of these words and of this baton wait for the others: the next number, and what they
-- keep of those that were taken in
pub record AreWaiting (live : Opened) (baton : TableId) (known : About) (next : ℕ) (steps : List (ℕ × List WordStep)) (entries : List (ℕ × Journal)) (chief : Chief) : Type 0 where
  pub hand : chief.hand ≡ record { table = live.table; hand = waiting next steps }
  pub at_baton : chief.token.baton ≡ baton
  pub member : chief.token.view.member ≡ waiting next entries
  pub idle : chief.token.view.holding ≡ false
  pub about : chief.token.view.about ≡ known

-- the words are as many as the core's, which stands for a history
abbrev pub IsFor : Opened → About → Type 0
IsFor live about = (words_of about ≡ length live.words) × IsBegunAs about

-- a mutator of this number, as it is hired for a job
abbrev pub hired_for : Opened → TableId → About → ℕ → Task → Working
hired_for live baton about k job = record { words = newly_on live k; book = new_token baton about k; stand = standing job.regs false; task = job.task; lines = job.lines.items }

-- mutators for these jobs, whose numbers rise by one
abbrev pub hired : Opened → TableId → About → ℕ → List Task → List Working
hired live baton about k [] = []
hired live baton about k (job ∷ jobs) = hired_for live baton about k job ∷ hired live baton about (k + 1) jobs

-- a mutator of this number sits on these words and at this baton
pub record Sits (live : Opened) (baton : TableId) (k : ℕ) (w : Working) : Type 0 where
  pub seat : IsSeated live baton w.words w.book
  pub hand : w.words.hand.hand.number ≡ k
  pub token : w.book.view.member.number ≡ k

-- mutators whose numbers rise by one do
abbrev pub AreSitting : Opened → TableId → ℕ → List Working → Type 0
AreSitting live baton k [] = Unit {0}
AreSitting live baton k (w ∷ ws) = Sits live baton k w × AreSitting live baton (k + 1) ws

-- what a mutator leaves
abbrev pub left_of : Working → Left
left_of w = record { steps = w.words.hand.hand.own; entries = w.book.view.member.own; most = w.book.view.most; mutator = w.stand }

-- its job, with the registers as they are now
abbrev pub left_job : Working → Job
left_job w = record { task = w.task; registers = w.stand.registers; lines = w.lines }

-- mutators were taken in, from number 2 on
pub record WereTakenIn (live : Opened) (baton : TableId) (about : About) (next : ℕ) (steps : List (ℕ × List WordStep)) (entries : List (ℕ × Journal)) (ws : List Working) (before after : Chief) : Type 0 where
  pub waiting : AreWaiting live baton about next (taken_in (λ l. l.steps) 2 (map left_of ws) steps) (taken_in (λ l. l.entries) 2 (map left_of ws) entries) after
  pub more : before.token.view.most ≤ after.token.view.most
  pub seen : Each (λ (w : Working). w.book.view.most ≤ after.token.view.most) ws

-- all workers of a round have run, and were taken in
pub record HavePlayed (live : Opened) (baton : TableId) (about : About) (tasks : List Task) (scans gap : ℕ) (chief : Chief) (done : List Task) (is_cut : Bool) : Type 0 where
  pub scanned : Journal
  pub most : ℕ
  pub whole : Bool
  pub ls : List Left
  pub waiting : AreWaiting live baton about (2 + length tasks) (kept_steps scanned ls) (kept_entries scanned ls) chief
  pub scan : IsScanned scans gap (limit_of about) scanned most whole
  pub left : HaveLeft (length live.words) (limit_of about) 2 (map job_of tasks) ls
  pub seen : (most ≤ chief.token.view.most) × Each (λ (l : Left). l.most ≤ chief.token.view.most) ls
  pub jobs : map job_of done ≡ with_ends (map job_of tasks) (ends_of ls)
  pub cut : is_cut ≡ is_cut_short whole ls
