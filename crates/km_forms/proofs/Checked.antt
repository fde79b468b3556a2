-- A whole check, from the count of a script.
use Rattle.std.proofs.Common.{◌≡◌, ℕ, List, [], ◌++◌, take, drop, Ok, Err, ap, sym, subst, ◌∙◌, refl}
use Rattle.std.proofs.lemmas.List.{take-append-drop}
use Rattle.km_base.specs.declared.status.Status.{Status}
use Rattle.km_base.specs.declared.status.Status.TheVariants as status
use Rattle.km_model.specs.Output.{status_of}
use Rattle.km_model.specs.Text.{commands_text, not_a_command_text}
use Rattle.km_edge.specs.Streams.{SourceState, SinkState}
use Rattle.km_edge.proofs.Writing.{wrote_none, wrote_out}
use Rattle.km_reader.specs.Causes.{EndsFrom, EndsWithin}
use Rattle.km_reader.specs.Lines.{IsPrefix}
use Rattle.km_reader.proofs.Sources.{some_left}
use Rattle.km_forms.specs.Lines.{Refuses}
use Rattle.km_forms.specs.Counts.{Counts, CountsScript, commands_of}
use Rattle.km_forms.specs.Checks.{WritesCount, WritesEnd, check_text, check_text_by, checked}

-- what was written is at the front of a text
front_of : (n : ℕ) (text : List ℕ) → IsPrefix (take n text) text
front_of n text = (drop n text, sym (take-append-drop n text))

-- the text of a check of bytes that end so
text_of : (bytes : List ℕ) (ended : Status) → status_of bytes ≡ ended → check_text bytes ≡ check_text_by ended (commands_of bytes)
text_of bytes ended e = ap (λ s. check_text_by s (commands_of bytes)) e

-- a text that stopped at a fault is the first part of what these bytes lead to
stopped_within : (taken text : List ℕ) (n : ℕ) → text ≡ check_text taken → EndsWithin checked taken (take n text)
stopped_within taken text n is = record { out = text; is_out = is; front = front_of n text }

-- the number of commands was written
pub count_written : (s s' : SourceState) (k k' : SinkState) (n : ℕ) (ended : Status) → CountsScript s s' (Ok n) → WritesCount n k k' ended → EndsFrom checked s s' k k' ended
count_written s s' k k' n status.Ok c w = record {
  taken = c.taken;
  written = commands_text n;
  took = c.took;
  came_out = wrote_out k k' (commands_text n) w;
  ends = λ remaining left.
      let all = c.counts remaining left in
      (all.0, (all.1, ap commands_text all.2 ∙ sym (text_of (c.taken ++ remaining) status.Ok all.1)), (all.3, w.faults_kept));
}
count_written s s' k k' n status.WriteFault c w = record {
  taken = c.taken;
  written = take w.0 (commands_text n);
  took = c.took;
  came_out = w.1.came_out;
  ends = λ remaining left.
      let all = c.counts remaining left in
      let text : check_text c.taken ≡ commands_text n = ap check_text all.0 ∙ text_of (c.taken ++ remaining) status.Ok all.1 ∙ ap commands_text (sym all.2) in
      (w.1.rose, all.3, stopped_within c.taken (commands_text n) w.0 (sym text));
}
count_written s s' k k' n status.ReadFault c w = absurd w
count_written s s' k k' n status.NoMemory c w = absurd w
count_written s s' k k' n status.TooLong c w = absurd w
count_written s s' k k' n (status.NotACommand _ _) c w = absurd w
count_written s s' k k' n (status.BadWords _) c w = absurd w

-- a refusal was written
pub refusal_written : (s s' : SourceState) (k k' : SinkState) (line column : ℕ) (ended : Status) → CountsScript s s' (Err (status.NotACommand line column)) → Refuses line column k k' ended
    → EndsFrom checked s s' k k' ended
refusal_written s s' k k' line column (status.NotACommand m d) c w = record {
  taken = c.taken;
  written = not_a_command_text line column;
  took = c.took;
  came_out = wrote_out k k' (not_a_command_text line column) w.2;
  ends = λ remaining left.
      let all = c.counts remaining left in
      let same : status.NotACommand line column ≡ status.NotACommand m d = ap (λ n. status.NotACommand n column) (sym w.0) ∙ ap (status.NotACommand m) (sym w.1) in
      ((all.0 ∙ same, sym (text_of (c.taken ++ remaining) (status.NotACommand line column) all.0)), (all.2, w.2.faults_kept));
}
refusal_written s s' k k' line column status.WriteFault c w = record {
  taken = c.taken;
  written = take w.0 (not_a_command_text line column);
  took = c.took;
  came_out = w.1.came_out;
  ends = λ remaining left.
      let all = c.counts remaining left in
      (w.1.rose, all.2, stopped_within c.taken (not_a_command_text line column) w.0 (sym (text_of c.taken (status.NotACommand line column) all.1)));
}
refusal_written s s' k k' line column status.Ok c w = absurd w
refusal_written s s' k k' line column status.ReadFault c w = absurd w
refusal_written s s' k k' line column status.NoMemory c w = absurd w
refusal_written s s' k k' line column status.TooLong c w = absurd w
refusal_written s s' k k' line column (status.BadWords _) c w = absurd w

-- a script doesn't end so
never : (s s' : SourceState) (ended : Status) → CountsScript s s' (Err ended) → ((bytes taken : List ℕ) → Counts bytes taken s s' (Err ended) → ⊥) → ⊥
never s s' ended counts so = let left = some_left s'.left in so (counts.taken ++ left.0) counts.taken (counts.counts left.0 left.1)

-- nothing is written at an end that is no refusal
pub none_written : (k : SinkState) (ended : Status) → ((n c : ℕ) → ended ≡ status.NotACommand n c → ⊥) → WritesEnd ended k k ended
none_written k (status.NotACommand n c) other = absurd (other n c refl)
none_written k status.Ok other = (refl, wrote_none k)
none_written k status.ReadFault other = (refl, wrote_none k)
none_written k status.WriteFault other = (refl, wrote_none k)
none_written k status.NoMemory other = (refl, wrote_none k)
none_written k (status.BadWords n) other = (refl, wrote_none k)
none_written k status.TooLong other = (refl, wrote_none k)

-- what a check writes of a script that was not counted
pub end_written : (s s' : SourceState) (k k' : SinkState) (ended result : Status) → CountsScript s s' (Err ended) → WritesEnd ended k k' result → EndsFrom checked s s' k k' result
end_written s s' k k' (status.NotACommand n c) result counts w = refusal_written s s' k k' n c result counts w
end_written s s' k k' status.ReadFault result counts w =
    subst (λ (x : Status). EndsFrom checked s s' k k' x) (sym w.0)
    (record {
      taken = counts.taken;
      written = [];
      took = counts.took;
      came_out = wrote_out k k' [] w.1;
      ends = λ remaining left. let all = counts.counts remaining left in (all.0, w.1.faults_kept, all.1, refl);
    })
end_written s s' k k' status.TooLong result counts w =
    subst (λ (x : Status). EndsFrom checked s s' k k' x) (sym w.0)
    (record {
      taken = counts.taken;
      written = [];
      took = counts.took;
      came_out = wrote_out k k' [] w.1;
      ends = λ remaining left.
          let all = counts.counts remaining left in
          (all.0, (all.1, sym (text_of (counts.taken ++ remaining) status.TooLong all.1)), (all.2, w.1.faults_kept));
    })
end_written s s' k k' status.Ok result counts w = absurd (never s s' status.Ok counts (λ bytes taken h. h))
end_written s s' k k' status.WriteFault result counts w = absurd (never s s' status.WriteFault counts (λ bytes taken h. h))
end_written s s' k k' status.NoMemory result counts w = absurd (never s s' status.NoMemory counts (λ bytes taken h. h))
end_written s s' k k' (status.BadWords n) result counts w = absurd (never s s' (status.BadWords n) counts (λ bytes taken h. h))
