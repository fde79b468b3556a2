-- A round on a machine.
use Rattle.std.proofs.Common.{◌≡◌, ℕ, ◌+◌, ◌*◌, List, [], length, map, Option, Result, sym, ◌∙◌, ap, subst, arith}
use Rattle.km_edge.specs.declared.errors.Failed.{Failed}
use Rattle.km_edge.specs.Streams.{SinkState, WritesAll}
use Rattle.km_model.specs.Follows.{Run, all_happen}
use Rattle.km_model.specs.Headline.{IsMemorySize}
use Rattle.km_rounds.specs.Orders.{words_after}
use Rattle.km_core.specs.Cores.{Seen}
use Rattle.km_live_words.proofs.Orders.{length_after}
use Rattle.km_live_model.specs.Rounds.{IsRound}
use Rattle.km_live_model.specs.Lives.{with_round}
use Rattle.km_live_map.specs.Books.{Book, IsBook, IsCoreFor}
use Rattle.km_live_workers.specs.declared.workers.Job.{Job as Task}
use Rattle.km_live.specs.Made.{HasMade}
use Rattle.km_live_workers.specs.Jobs.{job_of}
use Rattle.km_machine.specs.Machines.{For, HasRoom, Simulation, Spent}
use Rattle.km_machine.proofs.Rooms.{room_left, spent_more}
use Rattle.km_live_machine.specs.RoundRuns.{MayRunRound, RunsRound, acts_of_jobs, round_events, told_text}
use Rattle.km_live_machine.proofs.PutBack.{acts_told, few_done}
use Rattle.km_live_machine.proofs.Printed.{text_is}
use Rattle.km_live_machine.proofs.Ticks.{round_ticks}

-- a machine of a core and words
abbrev pub machine_of : Seen → List ℕ → Simulation
machine_of core memory = record { core = core; memory = memory }

-- a machine that was put together of a core that was taken out of a book
pub put_together : (m : Simulation) (core taken : Seen) (words : List ℕ) → m ≡ machine_of core words → core ≡ taken → m ≡ machine_of taken words
put_together m core taken words made is = made ∙ ap (λ (k : Seen). machine_of k words) is

-- the book of a machine's core, with an empty journal
abbrev pub book_of : Simulation → ℕ → Book
book_of m entries = record { opening = m.core; core = m.core; journal = []; entries = entries }

-- the core of a machine that stands for a run stands for its history
core_for : (m : Simulation) (run : Run) → For m run → IsCoreFor m.core run.history
core_for m run f = (f.state, f.stands)

module _ (m : Simulation) (tasks : List Task) (scans gap entries : ℕ) (after : Book) (left : List ℕ) (done : List Task) (told : Option ℕ)
    (made : HasMade (book_of m entries) m.memory tasks scans gap after left done told) (kept : IsBook after) where
  -- the machine before the registers are put back
  abbrev between : Simulation
  between = machine_of after.core left

  words_same : after.core.parts.words ≡ m.core.parts.words
  words_same = kept.words ∙ ap (λ (c : Seen). c.parts.words) made.about.0

  size_same : length left ≡ length m.memory
  size_same = ap length made.words ∙ length_after m.memory made.order

  -- it was a round of each run for which the machine stood
  was_round : (run : Run) → For m run → IsRound run.words run.history run.memory (map job_of tasks) scans gap entries after.journal made.order made.ends made.is_cut
  was_round run f =
      subst (λ n. IsRound n run.history run.memory (map job_of tasks) scans gap entries after.journal made.order made.ends made.is_cut) (f.whole ∙ sym f.words)
      (subst (λ ws. IsRound (length m.memory) run.history ws (map job_of tasks) scans gap entries after.journal made.order made.ends made.is_cut) f.memory
      (made.is_round run.history (core_for m run f)))

  -- and the machine stands for what it leads to
  stands_between : (run : Run) → For m run → For between (with_round run after.journal made.order)
  stands_between run f =
      let stands = made.stands run.history (core_for m run f) in
      record {
        size = subst IsMemorySize (sym words_same) f.size;
        words = f.words ∙ sym words_same;
        whole = size_same ∙ f.whole ∙ sym words_same;
        state = stands.0;
        stands = stands.1;
        memory = made.words ∙ ap (λ ws. words_after ws made.order) f.memory;
      }

  module _ (may : MayRunRound m tasks scans gap entries) where
    pub spent_between : Spent m between (entries + 1) (scans * gap)
    spent_between =
        let run = may.begun.0 in let f = may.begun.1 in
        let ticks = round_ticks run.words run.history run.memory (map job_of tasks) scans gap entries after.journal made.order made.ends made.is_cut (was_round run f) in
        let opening = made.about.0 in
        let events = kept.events in let now = kept.now in let room = kept.room in let limit = made.about.1 in
        let events_same = ap (λ (c : Seen). c.events) opening in
        let now_same = ap (λ (c : Seen). c.parts.settings.now) opening in
        record {
          size = size_same;
          words = words_same;
          events = omega (arith, events, events_same, room, limit);
          moment = omega (arith, now, now_same, ticks);
        }

    -- there is room to put the registers back
    pub room_between : HasRoom between (4 * length done) 0
    room_between =
        let few = few_done tasks done made.ends made.jobs in
        room_left m between (entries + 1) (4 * length done) (scans * gap) 0 (round_events entries (length tasks) + 1) (scans * gap) may.room spent_between (omega (arith, few)) (omega arith)

    -- the registers are put back, and the text is written
    pub runs_round : (next : Simulation) (k k' : SinkState) (result : Result (Unit {0}) Failed) → WritesAll k k' (told_text after.journal told) result
        → ((run : Run) → For between run → For next (all_happen run (acts_of_jobs done))) → Spent between next (4 * length done) 0
        → RunsRound m tasks scans gap entries next k k' result
    runs_round next k k' result wrote back spent =
        let few = few_done tasks done made.ends made.jobs in
        record {
          leads = λ run f.
              let before = with_round run after.journal made.order in (
                all_happen before (acts_of_jobs done),
                told_text after.journal told,
                record {
                  journal = after.journal;
                  order = made.order;
                  ends = made.ends;
                  full = made.is_cut;
                  is_round = was_round run f;
                  after = ap (λ acts. all_happen before acts) (acts_told (map job_of tasks) made.ends done made.jobs);
                  printed = text_is entries after.journal made.is_cut told made.full;
                },
                back before (stands_between run f),
                wrote,
              );
          spent = spent_more m between next (entries + 1) (4 * length done) (scans * gap) 0 (round_events entries (length tasks)) (scans * gap) spent_between spent (omega (arith, few)) (omega arith);
        }
