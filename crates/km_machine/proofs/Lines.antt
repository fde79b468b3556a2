-- What the events of a line print, one after the other.
use Rattle.std.proofs.Common.{◌≡◌, ℕ, ◌+◌, ◌-◌, ◌≤◌, Bool, true, false, ◌||◌, not, nat_lt, List, [], ◌∷◌, ◌++◌, length, Option, Some, None, Result, Ok, Err, refl, ap, sym, subst, ◌∙◌, arith}
use Rattle.std.proofs.lemmas.List.{append-nil}
use Rattle.km_base.specs.declared.acts.Act.{Act}
use Rattle.km_base.specs.declared.acts.Act.TheVariants as act
use Rattle.km_base.specs.declared.acts.FileCmd.{FileCmd}
use Rattle.km_base.specs.declared.acts.FileCmd.TheVariants as file
use Rattle.km_base.specs.declared.acts.Answer.{Answer}
use Rattle.km_base.specs.declared.acts.Answer.TheVariants.{Done, At, Loaded, Ended, Skipped, Dumped, Refused}
use Rattle.km_base.specs.declared.acts.Refusal.{Refusal}
use Rattle.km_base.specs.declared.acts.Refusal.TheVariants.{NoObject, NotInside, NoScanRunning, Disabled}
use Rattle.km_edge.specs.declared.errors.Failed.{Failed}
use Rattle.km_edge.specs.Streams.{SinkState, WritesAll}
use Rattle.km_base.specs.declared.lines.Command.{Command}
use Rattle.km_base.specs.declared.lines.Command.TheVariants as command
use Rattle.km_base.specs.declared.lines.Operand.{Operand}
use Rattle.km_base.specs.declared.lines.RegName.{RegName}
use Rattle.km_model.specs.Blocks.{Block, block_at, block_with}
use Rattle.km_model.specs.World.{World}
use Rattle.km_model.specs.Past.{Past, Place, world, running_scan, scans}
use Rattle.km_model.specs.Scan.{next}
use Rattle.km_model.specs.Verdict.{new_blocks}
use Rattle.km_model.specs.History.{History, ticks_of}
use Rattle.km_model.specs.Follows.{Run, all_happen, happens, told_answer, told_value, past_of}
use Rattle.km_model.specs.Answers.{answer, unless, done_at, unless_busy, annotation_answer, area_added, part_answer, dump_answer, why_answer, stop_answer, write_answer, info_of}
use Rattle.km_model.specs.Changes.{world_after_act}
use Rattle.km_model.specs.Operands.{operand_value, task_or_refusal, then_do}
use Rattle.km_model.specs.Tasks.{Task}
use Rattle.km_model.specs.Placement.{slot_of_area}
use Rattle.km_model.specs.Expansion.{Acts, Makes, for_register, slot_word, vfree_acts, acts_behind, behind_acts, behind_line, first_acts, further_acts, world_after}
use Rattle.km_model.specs.Output.{answer_text, events_text, keyword, line_text, listing_text, print_text, print_value}
use Rattle.km_model.specs.Text.{at_text, refusal_text, value_text}
use Rattle.km_machine.specs.Machines.{Simulation, For, RunsLine, Spent}
use Rattle.km_machine.specs.Scans.{shown}
use Rattle.km_machine.specs.Lines.{Gave, IsGiven, SaysLine, SoFar, is_alone, is_allocation, is_print, is_request, is_simple}
use Rattle.km_machine.specs.Sayings.{Saying}
use Rattle.km_machine.proofs.Sayings.{said_texts}

-- whether an answer is an address
abbrev pub is_place : Answer → Bool
is_place (At _) = true
is_place _ = false

record NoPlace (x : Answer) : Type 0 where
  no : is_place x ≡ false

unless_not : (b : Bool) (r : Refusal) (x : Answer) → NoPlace x → NoPlace (unless b r x)
unless_not true r x e = record { no = refl }
unless_not false r x e = e

done_at_not : (o : Option ℕ) → NoPlace (done_at o)
done_at_not None = record { no = refl }
done_at_not (Some a) = record { no = refl }

done_not : NoPlace Done
done_not = record { no = refl }

busy_not : (o : Option ℕ) (x : Answer) → NoPlace x → NoPlace (unless_busy o x)
busy_not None x e = e
busy_not (Some k) x e = record { no = refl }

stop_not : (o : Option ℕ) (x : Answer) → NoPlace x → NoPlace (stop_answer o x)
stop_not None x e = e
stop_not (Some k) x e = record { no = refl }

found_not : (o : Option Block) → NoPlace (elim o as (λ _. Answer) [ None ↦ Refused NoObject | Some _ ↦ Done ])
found_not None = record { no = refl }
found_not (Some b) = record { no = refl }

note_not : (w : World) (a : ℕ) → NoPlace (annotation_answer w a)
note_not w a = unless_not _ _ _ (found_not (block_at w.blocks a))

added_not : (a size : ℕ) (o : Option Block) → NoPlace (elim o as (λ _. Answer) [ None ↦ Refused NoObject | Some b ↦ area_added b a size ])
added_not a size None = record { no = refl }
added_not a size (Some b) = search (unless_not, done_not)

part_not : (o : Option Block) (end : ℕ) → NoPlace (part_answer o end)
part_not None end = record { no = refl }
part_not (Some b) end = unless_not (nat_lt (b.start + b.size) end) NotInside Done done_not

shown_not : (past : Past) (o : Option Block) → NoPlace (elim o as (λ _. Answer) [ None ↦ Refused NoObject | Some b ↦ Dumped (info_of past b) ])
shown_not past None = record { no = refl }
shown_not past (Some b) = record { no = refl }

skip_not : (o : Option ℕ) → NoPlace (elim o as (λ _. Answer) [ None ↦ Done | Some _ ↦ Skipped ])
skip_not None = record { no = refl }
skip_not (Some k) = record { no = refl }

word_not : (past : Past) (word : FileCmd) → NoPlace (write_answer past word)
word_not past file.Off = unless_not (not (world past).enabled) Disabled (stop_answer (running_scan past) Done) (stop_not (running_scan past) Done done_not)
word_not past file.Clear = busy_not (running_scan past) Done done_not
word_not past (file.Dump a) =
    unless_not (not (world past).enabled) Disabled (unless_busy (running_scan past) (dump_answer past a)) (busy_not (running_scan past) (dump_answer past a) (shown_not past (block_with (world past).blocks a)))
word_not past (file.Why a) =
    unless_not (not (world past).enabled) Disabled (unless_busy (running_scan past) (why_answer (world past) a)) (busy_not (running_scan past) (why_answer (world past) a) (found_not (block_with (world past).blocks a)))
word_not past _ = unless_not (not (world past).enabled) Disabled (unless_busy (running_scan past) Done) (busy_not (running_scan past) Done done_not)

step_not : (past : Past) (value : ℕ) (o : Option ℕ) (p : Option Place)
    → NoPlace (elim o as (λ _. Answer) [ None ↦ Refused NoScanRunning | Some _ ↦ elim p as (λ _. Answer) [ None ↦ Ended (scans past) (length (new_blocks past)) | Some place ↦ Loaded place.word value ] ])
step_not past value None p = record { no = refl }
step_not past value (Some k) None = record { no = refl }
step_not past value (Some k) (Some place) = record { no = refl }

loaded_not : (a value : ℕ) → NoPlace (Loaded a value)
loaded_not a value = record { no = refl }

-- an act that asks for no allocation is answered by no address
not_place : (words : ℕ) (past : Past) (a : Act) (value : ℕ) → is_request a ≡ false → NoPlace (answer words past a value)
unfolding answer
not_place words past (act.Section name n) value s = search (unless_not, done_at_not)
not_place words past (act.TaskStart name) value s = search (unless_not, done_at_not)
not_place words past (act.TaskExit name) value s = search (unless_not, done_not)
not_place words past (act.SetReg task reg v) value s = search (unless_not, done_not)
not_place words past (act.Load task reg a) value s = search (unless_not, loaded_not)
not_place words past (act.Store a v) value s = search (unless_not, done_not)
not_place words past (act.Kfree a) value s = search (unless_not, done_not)
not_place words past (act.FreePages a) value s = search (unless_not, done_not)
not_place words past (act.VmGive a) value s = search (unless_not, done_not)
not_place words past (act.FreePart a size) value s = search (unless_not, part_not)
not_place words past (act.NotLeak a) value s = note_not (world past) a
not_place words past (act.Ignore a) value s = note_not (world past) a
not_place words past (act.NoScan a) value s = note_not (world past) a
not_place words past (act.ScanArea a size) value s = let added = added_not a size (block_with (world past).blocks a) in search unless_not
not_place words past (act.TransientLeak a) value s = note_not (world past) a
not_place words past (act.File word) value s = word_not past word
not_place words past act.Read value s = busy_not (running_scan past) Done done_not
not_place words past (act.Tick n) value s = done_not
not_place words past act.AutoBegin value s = unless_not (not (world past).enabled) Disabled _ (skip_not (running_scan past))
not_place words past act.Step value s = step_not past value (running_scan past) (next past)
not_place words past act.Halt value s = stop_not (running_scan past) (Refused NoScanRunning) (record { no = refl })
not_place words past (act.Kmalloc size) value s = absurd (cc)
not_place words past (act.Pages n) value s = absurd (cc)
not_place words past (act.VmTake size) value s = absurd (cc)
not_place words past (act.BootMem size) value s = absurd (cc)

no_request : (run : Run) (a : Act) → is_request a ≡ false → is_place (told_answer run a) ≡ false
no_request run a s = (not_place run.words (past_of run.history) a (told_value run a) s).no

-- so an address is given to a request
pub given_asks : (run : Run) (a : Act) (start : ℕ) → At start ≡ told_answer run a → is_request a ≡ true
given_asks run a start e = by_request (is_request a) refl where
  by_request : (q : Bool) → is_request a ≡ q → is_request a ≡ true
  by_request true r = r
  by_request false r = absurd (let bad : true ≡ false = ap is_place e ∙ no_request run a r in cc)

pub simple_request : (a : Act) → is_simple a ≡ true → is_request a ≡ false
simple_request (act.Kmalloc _) s = absurd (cc)
simple_request (act.Pages _) s = absurd (cc)
simple_request (act.VmTake _) s = absurd (cc)
simple_request (act.BootMem _) s = absurd (cc)
simple_request a s = refl

pub simply_answered : (run : Run) (a : Act) → is_simple a ≡ true → is_place (told_answer run a) ≡ false
simply_answered run a s = no_request run a (simple_request a s)

-- the first word of a line stands in an address's text alone
pub at_is : (memory word : List ℕ) (h : History) (a : Act) (start : ℕ) → at_text word start ≡ answer_text memory word h a (At start)
at_is memory word h act.Read start = refl
at_is memory word h a start = refl

-- and what isn't an address is shown alike, but for a listing
pub shown_is : (memory word : List ℕ) (h : History) (a : Act) (given : Answer) → (a ≡ act.Read → given ≡ Done → ⊥) → is_place given ≡ false → shown given ≡ answer_text memory word h a given
shown_is memory word h a (At x) unread e = absurd (cc)
shown_is memory word h act.Read Done unread e = absurd (unread refl refl)
shown_is memory word h act.Read given unread e = refl
shown_is memory word h a given unread e = refl

-- neither kind of act reads the file
pub simple_unread : (a : Act) → is_simple a ≡ true → a ≡ act.Read → ⊥
simple_unread a s e = let bad : false ≡ true = subst (λ x. is_simple x ≡ true) e s in cc

pub request_unread : (a : Act) → is_request a ≡ true → a ≡ act.Read → ⊥
request_unread a s e = let bad : false ≡ true = subst (λ x. is_request x ≡ true) e s in cc

pub request_ticks : (a : Act) → is_request a ≡ true → ticks_of a ≡ 0
request_ticks (act.Tick n) e = absurd (cc)
request_ticks a e = refl

-- a line that makes its acts and then those behind an address
abbrev is_plain : Command → Bool
is_plain c = is_alone c || is_allocation c

pub alone_plain : (c : Command) → is_alone c ≡ true → is_plain c ≡ true
alone_plain c e = ap (λ b. b || is_allocation c) e

pub allocation_plain : (c : Command) → is_allocation c ≡ true → is_plain c ≡ true
allocation_plain c e = either (is_alone c) (is_allocation c) e where
  either : (b d : Bool) → d ≡ true → (b || d) ≡ true
  either true d e = refl
  either false d e = e

plain_makes : (run x : Run) (c : Command) → is_plain c ≡ true → behind_line run c ≡ x → Makes run c x
plain_makes run x (command.Write (Some file.Scan)) p e = absurd (cc)
plain_makes run x (command.Step n) p e = absurd (cc)
plain_makes run x command.Finish p e = absurd (cc)
plain_makes run x (command.Tick n) p e = absurd (cc)
plain_makes run x c p e = e

unprinted : (h : History) (c : Command) → is_print c ≡ false → print_text h c ≡ []
unprinted h (command.Print o) e = absurd (cc)
unprinted h c e = refl

-- the text of a line is that of its events
line_is : (count : ℕ) (run x : Run) (c : Command) (acts : List Act) → first_acts (world_after run.history) c ≡ Ok acts → print_text run.history c ≡ [] → length x.history ≡ count + length run.history
    → line_text run c x ≡ events_text run.memory (keyword c) count x.history
line_is count run x c acts first prints grown =
    ap (λ (r : Acts). elim r as (λ _. List ℕ) [ Err r ↦ refusal_text r | Ok _ ↦ print_text run.history c ++ events_text run.memory (keyword c) (length x.history - length run.history) x.history ]) first
    ∙ ap (λ t. t ++ events_text run.memory (keyword c) (length x.history - length run.history) x.history) prints
    ∙ (let n : length x.history - length run.history ≡ count = omega (arith, grown) in ap (λ n. events_text run.memory (keyword c) n x.history) n)

-- a line of these acts
pub says_line : (says : Saying) (next : Simulation) (run x : Run) (c : Command) (k k' : SinkState) (written : Result (Unit {0}) Failed) (acts : List Act)
    → first_acts (world_after run.history) c ≡ Ok acts → Makes run c x → SoFar says run x next k k' written → SaysLine says next run c k k' (Ok written)
says_line says next run x c k k' written acts first makes s = record { behind = x; makes = makes; stands = s.stands; said = (acts, first, s.said) }

-- a plain line of one act and those behind it
pub plain_says : (says : Saying) (next : Simulation) (run : Run) (c : Command) (k k' : SinkState) (written : Result (Unit {0}) Failed) (a : Act) → is_plain c ≡ true → Ok (a ∷ []) ≡ first_acts (world_after run.history) c
    → SoFar says run (all_happen (happens run a) (further_acts (happens run a).history c)) next k k' written
    → SaysLine says next run c k k' (Ok written)
plain_says says next run c k k' written a plain first s =
    says_line says next run _ c k k' written (a ∷ []) (sym first) (plain_makes run _ c plain (ap (behind_acts run c) (sym first))) s

-- nothing is behind what isn't an address
pub none_further : (h : History) (a : Act) (given : Answer) (c : Command) → is_place given ≡ false → further_acts (record { act = a; answer = given } ∷ h) c ≡ []
none_further h a (At x) c e = absurd (cc)
none_further h a given c e = refl

-- a line that is refused
pub refused_line : (says : Saying) (machine : Simulation) (run : Run) (c : Command) (k : SinkState) (r : Refusal) → is_plain c ≡ true → For machine run
    → Err r ≡ first_acts (world_after run.history) c → SaysLine says machine run c k k (Err r)
refused_line says machine run c k r plain f first = record {
  behind = run;
  makes = plain_makes run run c plain (ap (behind_acts run c) (sym first));
  stands = f;
  said = (sym first, refl);
}

pub not_at : (x : Answer) → ((a : ℕ) → x ≡ At a → ⊥) → is_place x ≡ false
not_at (At a) never = absurd (never a refl)
not_at x never = refl

-- what is behind an address
pub further_at : (h x : History) (a : Act) (start : ℕ) (c : Command) → x ≡ record { act = a; answer = At start } ∷ h → further_acts x c ≡ acts_behind (world_after x) c start
further_at h x a start c e = subst (λ y. further_acts y c ≡ acts_behind (world_after y) c start) (sym e) refl

-- a line that prints a value
pub shows : (machine : Simulation) (run : Run) (o : Operand) (k k' : SinkState) (result : Result (Unit {0}) Failed) (v : ℕ) → For machine run → Ok v ≡ operand_value (world_after run.history) o
    → WritesAll k k' (value_text v) result → RunsLine machine run (command.Print o) k k' result
shows machine run o k k' result v f e wrote = record {
  behind = run;
  makes = ap (λ (r : Result ℕ Refusal). behind_acts run (command.Print o) (then_do r (λ _. Ok []))) (sym e);
  stands = f;
  wrote = subst (λ t. WritesAll k k' t result) (sym text) wrote;
} where
  none : length run.history - length run.history ≡ 0
  none = omega arith

  text : line_text run (command.Print o) run ≡ value_text v
  text =
      ap (λ (r : Result ℕ Refusal). elim (then_do {B = List Act} r (λ _. Ok [])) as (λ _. List ℕ) [
        | Err x ↦ refusal_text x
        | Ok _ ↦ print_value r ++ events_text run.memory [] (length run.history - length run.history) run.history
      ]) (sym e) ∙ ap (λ n. value_text v ++ events_text run.memory [] n run.history) none ∙ append-nil (value_text v)

-- a read lists, or is refused
listed_same : (memory : List ℕ) (h : History) → listing_text memory (record { act = act.Read; answer = Done } ∷ h) ≡ listing_text memory h
unfolding world_after_act
listed_same memory h = refl

pub reads : (says : Saying) (next : Simulation) (run : Run) (k k' : SinkState) (written : Result (Unit {0}) Failed)
    → SoFar says run (happens run act.Read) next k k' written → SaysLine says next run command.Read k k' (Ok written)
reads says next run k k' written s =
    says_line says next run (happens run act.Read) command.Read k k' written (act.Read ∷ []) refl
    (ap (all_happen (happens run act.Read)) (none_further run.history act.Read (told_answer run act.Read) command.Read (no_request run act.Read refl))) s

-- the listing after a read is the text of its answer, over the words that it read
pub listed : (memory word : List ℕ) (run : Run) (a : Act) → a ≡ act.Read → memory ≡ run.memory → Done ≡ told_answer run a
    → listing_text (happens run a).memory (happens run a).history ≡ answer_text memory word run.history a Done
listed memory word run a read same answered =
    subst (λ a. Done ≡ told_answer run a → listing_text (happens run a).memory (happens run a).history ≡ answer_text memory word run.history a Done) (sym read)
    (λ done. ap (λ x. listing_text run.memory (record { act = act.Read; answer = x } ∷ run.history)) (sym done) ∙ listed_same run.memory run.history ∙ ap (λ m. listing_text m run.history) (sym same))
    answered

-- an area is given back
none_behind_vfree : (h : History) (o : Operand) → further_acts h (command.Vfree o) ≡ []
none_behind_vfree [] o = refl
none_behind_vfree (e ∷ h) o = by_answer e.answer where
  by_answer : (x : Answer) → (elim x as (λ _. List Act) [ At a ↦ acts_behind (world_after (e ∷ h)) (command.Vfree o) a | _ ↦ [] ]) ≡ []
  by_answer x = elim x as (λ x. (elim x as (λ _. List Act) [ At a ↦ acts_behind (world_after (e ∷ h)) (command.Vfree o) a | _ ↦ [] ]) ≡ []) [ At a ↦ refl | _ ↦ refl ]

gives_acts : (run : Run) (o : Operand) (a : ℕ) (slot : Option ℕ)
    → behind_acts run (command.Vfree o) (Ok (elim slot as (λ _. List Act) [ None ↦ act.VmGive a ∷ [] | Some s ↦ act.Store (slot_word s) 0 ∷ act.VmGive a ∷ [] ]))
    ≡ all_happen run (elim slot as (λ _. List Act) [ None ↦ act.VmGive a ∷ [] | Some s ↦ act.Store (slot_word s) 0 ∷ act.VmGive a ∷ [] ])
gives_acts run o a None = let done = all_happen run (act.VmGive a ∷ []) in ap (all_happen done) (none_behind_vfree done.history o)
gives_acts run o a (Some s) = let done = all_happen run (act.Store (slot_word s) 0 ∷ act.VmGive a ∷ []) in ap (all_happen done) (none_behind_vfree done.history o)

pub gives : (says : Saying) (next : Simulation) (run : Run) (o : Operand) (k k' : SinkState) (written : Result (Unit {0}) Failed) (a : ℕ) → Ok a ≡ operand_value (world_after run.history) o
    → SoFar says run (all_happen run (vfree_acts (world_after run.history) a)) next k k' written → SaysLine says next run (command.Vfree o) k k' (Ok written)
gives says next run o k k' written a e s =
    let w = world_after run.history in
    says_line says next run _ (command.Vfree o) k k' written (vfree_acts w a) (ap (λ (r : Result ℕ Refusal). then_do r (λ x. Ok (vfree_acts w x))) (sym e))
    (ap (λ (r : Result ℕ Refusal). behind_acts run (command.Vfree o) (then_do r (λ x. Ok (vfree_acts w x)))) (sym e)
    ∙ gives_acts run o a (slot_of_area w.used a)) s

pub gives_none : (says : Saying) (machine : Simulation) (run : Run) (o : Operand) (k : SinkState) (r : Refusal) → For machine run → Err r ≡ operand_value (world_after run.history) o
    → SaysLine says machine run (command.Vfree o) k k (Err r)
gives_none says machine run o k r f e =
    let w = world_after run.history in
    record {
      behind = run;
      makes = ap (λ (x : Result ℕ Refusal). behind_acts run (command.Vfree o) (then_do x (λ a. Ok (vfree_acts w a)))) (sym e);
      stands = f;
      said = (ap (λ (x : Result ℕ Refusal). then_do x (λ a. Ok (vfree_acts w a))) (sym e), refl);
    }

-- a line whose events were said by their texts
abbrev pub texts_of : Command → Saying
texts_of c memory h act given = answer_text memory (keyword c) h act given

pub printed : (next : Simulation) (run : Run) (c : Command) (k k' : SinkState) (written : Result (Unit {0}) Failed) → is_print c ≡ false
    → SaysLine (texts_of c) next run c k k' (Ok written) → RunsLine next run c k k' written
printed next run c k k' written events s =
    let said = s.said.2 in
    record {
      behind = s.behind;
      makes = s.makes;
      stands = s.stands;
      wrote = subst (λ t. WritesAll k k' t written)
          (said_texts (keyword c) run.memory said.count s.behind.history ∙ sym (line_is said.count run s.behind c s.said.0 s.said.1 (unprinted run.history c events) said.grown)) said.wrote;
    }

pub refused : (next : Simulation) (run : Run) (c : Command) (k k' k'' : SinkState) (r : Refusal) (written : Result (Unit {0}) Failed)
    → SaysLine (texts_of c) next run c k k' (Err r) → WritesAll k' k'' (refusal_text r) written → RunsLine next run c k k'' written
refused next run c k k' k'' r written s wrote = record {
  behind = s.behind;
  makes = s.makes;
  stands = s.stands;
  wrote = subst (λ t. WritesAll k k'' t written)
      (ap (λ (x : Acts). elim x as (λ _. List ℕ) [ Err r ↦ refusal_text r | Ok _ ↦ print_text run.history c ++ events_text run.memory (keyword c) (length s.behind.history - length run.history) s.behind.history ]) (sym s.said.0))
      (subst (λ a. WritesAll a k'' (refusal_text r) written) s.said.1 wrote);
}

-- acts in two parts
pub happen_append : (run : Run) (xs ys : List Act) → all_happen run (xs ++ ys) ≡ all_happen (all_happen run xs) ys
happen_append run [] ys = refl
happen_append run (x ∷ xs) ys = happen_append (happens run x) xs ys

-- the request of a line is the act that its register is for
asked_for : (w : World) (r : Option RegName) (a b : Act) → Ok (a ∷ []) ≡ for_register w r b → a ≡ b
asked_for w None a b e = (cc)
asked_for w (Some r) a b e = by_task (task_or_refusal w r.task) e where
  by_task : (o : Result Task Refusal) → Ok (a ∷ []) ≡ then_do o (λ _. Ok (b ∷ [])) → a ≡ b
  by_task (Ok t) e = (cc)
  by_task (Err x) e = absurd (let z : ⊥ = cc in z)

pub gave : (c d : Command) (start : ℕ) (r : Option RegName) (a : Act) (h : History) → c ≡ d → ((w : World) → first_acts w d ≡ for_register w r a) → IsGiven c start h → Gave a start h
gave c d start r a h is asks given = record {
  before = given.before;
  newest = given.newest ∙ ap (λ x. record { act = x; answer = At start } ∷ given.before)
      (asked_for (world_after given.before) r given.request a (given.first ∙ ap (first_acts (world_after given.before)) is ∙ asks (world_after given.before)));
}

pub spent_less : (machine next : Simulation) (n m : ℕ) → Spent machine next n 0 → n ≤ m → Spent machine next m 0
spent_less machine next n m s low = record {
  size = s.size;
  words = s.words;
  events = (let e = s.events in omega (arith, e, low));
  moment = s.moment;
}
