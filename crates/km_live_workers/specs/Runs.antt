-- What a worker of a round needs, and what it has made when it ends.
use Rattle.std.specs.Prelude.{◌≡◌, ℕ, ◌+◌, ◌*◌, ◌<◌, ◌≤◌, ◌^◌, Bool, List}
use Rattle.km_live_model.specs.declared.jobs.JobLine.{JobLine}
use Rattle.km_live_model.specs.Courses.{Mutator}
use Rattle.km_live_words.specs.Hands.{HandOn, told_of}
use Rattle.km_live_map.specs.Views.{TokenOf}
use Rattle.km_rounds.specs.Journals.{ticks_in}
use Rattle.km_workers.specs.Workers.{Acts, IsCourse, IsFull, IsScan, IsSeen}
use Rattle.km_live_workers.specs.AtBooks.{acting_of}

-- a mutator in its seat: its hand on the words, its token at the book, where it stands, its task and its lines
pub record Working : Type 0 where
  pub words : HandOn
  pub book : TokenOf
  pub stand : Mutator
  pub task : List ℕ
  pub lines : List JobLine

-- it may begin: its words are those of the core, and it has left no act out, or the journal is full
pub record IsReady (w : Working) : Type 0 where
  pub words : (acting_of w.book).words ≡ (told_of w.words).size
  pub full : IsFull (acting_of w.book) w.stand

-- it is the same hand of the same words, and the same token of the same baton
pub record IsSameSeat (s t : HandOn) (b c : TokenOf) : Type 0 where
  pub words : t.hand.table ≡ s.hand.table
  pub hand : t.hand.hand.number ≡ s.hand.hand.number
  pub baton : c.baton ≡ b.baton
  pub token : c.view.member.number ≡ b.view.member.number

-- what it made is the course of its lines, in the same seat
pub record HasRun (v w : Working) : Type 0 where
  pub seat : IsSameSeat v.words w.words v.book w.book
  pub job : (w.task ≡ v.task) × (w.lines ≡ v.lines)
  pub course : IsCourse (acting_of v.book) (acting_of w.book) (told_of v.words) (told_of w.words) v.stand w.stand v.lines
  pub full : IsFull (acting_of w.book) w.stand

-- the scanner may begin: its words are those of the core, its number is 1, and there is room for the gaps
pub record MayScan (s : HandOn) (b : TokenOf) (scans gap : ℕ) : Type 0 where
  pub words : (acting_of b).words ≡ (told_of s).size
  pub seen : IsSeen (acting_of b)
  pub few : (acting_of b).limit < 2 ^ 32
  pub ticks : ((acting_of b).by ≡ 1) × ((acting_of b).moment + ticks_in (acting_of b).own + scans * gap ≤ 2 ^ 62)

-- what it made is its course, whole or cut
pub record HasScanned (s t : HandOn) (b c : TokenOf) (scans gap : ℕ) (whole : Bool) : Type 0 where
  pub seat : IsSameSeat s t b c
  pub made : Acts (acting_of b) (acting_of c) (told_of s) (told_of t)
  pub scan : IsScan (acting_of b) (acting_of c) scans gap made.entries whole
