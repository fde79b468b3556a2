-- A whole check, from its lines and what was written.
use Rattle.std.proofs.Common.{◌≡◌, ◌≢◌, ℕ, List, [], ◌++◌, length, take, drop, Option, Some, None, inl, inr, refl, ap, sym, subst, ◌∙◌}
use Rattle.std.proofs.lemmas.List.{append-nil, append_cancel_left, take-append-drop}
use Rattle.km_edge.specs.Streams.{SourceState, SinkState, Rose, StoppedAt, Wrote}
use Rattle.km_edge.proofs.Writing.{wrote_none, wrote_out}
use Rattle.km_model.proofs.Cases.{some_same}
use Rattle.km_reader.specs.Causes.{AtMemory, Ends, EndsBy, EndsFrom, EndsOver, EndsWithin}
use Rattle.km_reader.specs.Lines.{IsLeft, IsPrefix}
use Rattle.km_reader.proofs.Caused.{ends_as_told, ends_over, has_cause}
use Rattle.km_reader.proofs.Sources.{left_after, some_left}
use Rattle.km_rounds.specs.declared.entry.Entry.{Entry}
use Rattle.km_entries.specs.declared.status.CheckStatus.{CheckStatus}
use Rattle.km_entries.specs.declared.status.CheckStatus.TheVariants as check
use Rattle.km_entries.specs.File.{Checked, Outcome, Over, check_text, history_in, ok_text, outcome_of, outcome_text, scans_completed}
use Rattle.km_journal_laws.proofs.Accepted.{accepted_are_journals, ok_is_accepted}
use Rattle.km_journal_laws.proofs.Listings.{journals_list_nothing_held, journals_list_the_forgotten}
use Rattle.km_journal.specs.declared.replay.Replay.{Replay}
use Rattle.km_journal.specs.Replays.{HasRead}
use Rattle.km_journal.specs.Journals.{ChecksFile, EndsCheck, WritesText, cause_of, journals, status_of, text_of}
use Rattle.km_journal.specs.Program.{Checks, IsChecked, Proves}
use Rattle.km_journal.proofs.Events.{events_are}

-- the text of bytes that end so
text_by : (bytes : List ℕ) (ended : CheckStatus) → status_of bytes ≡ ended → check_text bytes ≡ outcome_text ended (outcome_of bytes).after
text_by bytes ended e = ap (λ s. outcome_text s (outcome_of bytes).after) e

-- the numbers of a whole journal
over_text : (replay : Option Replay) (words : ℕ) (ns : List Entry) → HasRead replay (Over words ns) → text_of check.Ok replay ≡ Some (ok_text (length ns) (scans_completed ns))
over_text None words ns read = absurd read
over_text (Some r) words ns read =
    let stood = read.0 in
    ap (λ n. Some (ok_text n r.scans)) (stood.stands.events ∙ events_are ns) ∙ ap (λ n. Some (ok_text (length ns) n)) stood.scans

ok_is_told : (bytes : List ℕ) (replay : Option Replay) (after : Checked) → outcome_of bytes ≡ record { status = check.Ok; after = after } → HasRead replay after → text_of check.Ok replay ≡ Some (check_text bytes)
ok_is_told bytes replay after is read =
    let all = ok_is_accepted bytes (ap (λ (o : Outcome). o.status) is) in
    let over : after ≡ Over all.0 all.1 = sym (ap (λ (o : Outcome). o.after) is) ∙ ap (λ (o : Outcome). o.after) all.2 in
    over_text replay all.0 all.1 (subst (HasRead replay) over read) ∙ ap Some (sym (ap (λ (o : Outcome). outcome_text o.status o.after) all.2))

-- what was written is the first part of a text
front_of : (n : ℕ) (text : List ℕ) → IsPrefix (take n text) text
front_of n text = (drop n text, sym (take-append-drop n text))

-- a run over what a source gives, and that it wrote nothing but the first part of the text of the bytes
pub record Comes (s s' : SourceState) (k k' : SinkState) (ended : CheckStatus) : Type 0 where
  pub run : EndsFrom journals s s' k k' ended
  pub within : (remaining : List ℕ) → IsLeft s'.left remaining → IsPrefix run.written (check_text (run.taken ++ remaining))

-- a text was written
told : (s s' : SourceState) (k k' : SinkState) (replay : Option Replay) (ended result : CheckStatus) (text : List ℕ) (c : ChecksFile s s' replay ended)
    → ((remaining : List ℕ) → IsLeft s'.left remaining → (text ≡ check_text (c.taken ++ remaining)) × (text ≡ check_text c.taken) × (s'.faults ≡ s.faults)
    × (k'.faults ≡ k.faults → EndsBy journals (c.taken ++ remaining) c.taken text s s' k k' ended (cause_of ended)))
    → WritesText (Some text) ended k k' result → Comes s s' k k' result
told s s' k k' replay ended result text c is (inl w) =
    subst (λ (x : CheckStatus). Comes s s' k k' x) (sym w.0)
    (record {
      run = record {
        taken = c.taken;
        written = text;
        took = c.took;
        came_out = wrote_out k k' text w.1;
        ends = λ remaining left. (is remaining left).3 w.1.faults_kept;
      };
      within = λ remaining left. ([], sym (is remaining left).0 ∙ sym (append-nil text));
    })
told s s' k k' replay ended result text c is (inr w) =
    let stopped = w.1.1 in
    let n = w.1.0 in
    subst (λ (x : CheckStatus). Comes s s' k k' x) (sym w.0)
    (record {
      run = record {
        taken = c.taken;
        written = take n text;
        took = c.took;
        came_out = stopped.came_out;
        ends = λ remaining left. (stopped.rose, (is remaining left).2, record { out = text; is_out = (is remaining left).1; front = front_of n text });
      };
      within = λ remaining left. let front = front_of n text in (front.0, sym (is remaining left).0 ∙ front.1);
    })

-- nothing was written
untold : (s s' : SourceState) (k k' : SinkState) (replay : Option Replay) (ended result : CheckStatus) (c : ChecksFile s s' replay ended)
    → ((remaining : List ℕ) → IsLeft s'.left remaining → EndsBy journals (c.taken ++ remaining) c.taken [] s s' k k ended (cause_of ended)) → WritesText None ended k k' result → Comes s s' k k' result
untold s s' k k' replay ended result c is w =
    subst (λ (x : CheckStatus). Comes s s' k k' x) (sym w.0)
    (subst (λ (x : SinkState). Comes s s' k x ended) (sym w.1)
    (record {
      run = record {
        taken = c.taken;
        written = [];
        took = c.took;
        came_out = wrote_out k k [] (wrote_none k);
        ends = is;
      };
      within = λ remaining left. (check_text (c.taken ++ remaining), refl);
    }))

-- a check doesn't end so
never : (s s' : SourceState) (replay : Option Replay) (ended : CheckStatus) → ChecksFile s s' replay ended → ((bytes taken : List ℕ) → EndsCheck bytes taken s s' replay ended → ⊥) → ⊥
never s s' replay ended c so = let left = some_left s'.left in so (c.taken ++ left.0) c.taken (c.ends left.0 left.1)

-- the text of a file that was read to its end
ok_comes : (s s' : SourceState) (k k' : SinkState) (replay : Option Replay) (result : CheckStatus) (o : Option (List ℕ)) → ChecksFile s s' replay check.Ok → text_of check.Ok replay ≡ o → WritesText o check.Ok k k' result
    → Comes s s' k k' result
ok_comes s s' k k' replay result None c e w =
    let left = some_left s'.left in
    let all = c.ends left.0 left.1 in
    let is = ok_is_told (c.taken ++ left.0) replay all.1.0 all.1.1 all.1.2 in
    absurd (let both : None ≡ Some (check_text (c.taken ++ left.0)) = sym e ∙ is in let z : ⊥ = cc in z)
ok_comes s s' k k' replay result (Some text) c e w =
    told s s' k k' replay check.Ok result text c
    (λ remaining left.
    let all = c.ends remaining left in
    let bytes = c.taken ++ remaining in
    let same : text ≡ check_text bytes = some_same text (check_text bytes) (sym e ∙ ok_is_told bytes replay all.1.0 all.1.1 all.1.2) in (
      same,
      same ∙ ap check_text (sym all.0),
      all.2,
      λ kept. (all.0, (ap (λ (o : Outcome). o.status) all.1.1, same), (all.2, kept)),
    ))
    w

pub comes : (s s' : SourceState) (k k' : SinkState) (replay : Option Replay) (ended result : CheckStatus) → ChecksFile s s' replay ended → WritesText (text_of ended replay) ended k k' result → Comes s s' k k' result
comes s s' k k' replay check.Ok result c w = ok_comes s s' k k' replay result (text_of check.Ok replay) c refl w
comes s s' k k' replay (check.Wrong n) result c w =
    told s s' k k' replay (check.Wrong n) result _ c
    (λ remaining left.
    let all = c.ends remaining left in
    let same = sym (text_by (c.taken ++ remaining) (check.Wrong n) all.0) in
    (same, sym (text_by c.taken (check.Wrong n) all.1), all.2, λ kept. ((all.0, same), (all.2, kept))))
    w
comes s s' k k' replay (check.NotALine n) result c w =
    told s s' k k' replay (check.NotALine n) result _ c
    (λ remaining left.
    let all = c.ends remaining left in
    let same = sym (text_by (c.taken ++ remaining) (check.NotALine n) all.0) in
    (same, sym (text_by c.taken (check.NotALine n) all.1), all.2, λ kept. ((all.0, same), (all.2, kept))))
    w
comes s s' k k' replay check.Cut result c w =
    told s s' k k' replay check.Cut result _ c
    (λ remaining left.
    let all = c.ends remaining left in
    let status = ap (λ (o : Outcome). o.status) all.1.1 in
    let same = sym (text_by (c.taken ++ remaining) check.Cut status) in
    (same, same ∙ ap check_text (sym all.0), all.2, λ kept. (all.0, (status, same), (all.2, kept))))
    w
comes s s' k k' replay check.TooLong result c w =
    untold s s' k k' replay check.TooLong result c
    (λ remaining left.
    let all = c.ends remaining left in
    (all.0, (all.1, sym (text_by (c.taken ++ remaining) check.TooLong all.1)), (all.2, refl)))
    w
comes s s' k k' replay check.ReadFault result c w =
    untold s s' k k' replay check.ReadFault result c (λ remaining left. let all = c.ends remaining left in (all.0, refl, all.1, refl)) w
comes s s' k k' replay check.NoMemory result c w =
    untold s s' k k' replay check.NoMemory result c (λ remaining left. let all = c.ends remaining left in ((refl, all.0), (all.1, refl))) w
comes s s' k k' replay check.WriteFault result c w = absurd (never s s' replay check.WriteFault c (λ bytes taken h. h))
comes s s' k k' replay (check.BadWords n) result c w = absurd (never s s' replay (check.BadWords n) c (λ bytes taken h. h))

short_of_memory : (ended : CheckStatus) → cause_of ended ≡ AtMemory → ended ≡ check.NoMemory
short_of_memory check.NoMemory e = refl
short_of_memory check.Ok e = absurd (cc)
short_of_memory (check.Wrong _) e = absurd (cc)
short_of_memory check.ReadFault e = absurd (cc)
short_of_memory check.WriteFault e = absurd (cc)
short_of_memory (check.BadWords _) e = absurd (cc)
short_of_memory check.TooLong e = absurd (cc)
short_of_memory (check.NotALine _) e = absurd (cc)
short_of_memory check.Cut e = absurd (cc)

-- bytes of this status are a journal, and the laws of listings hold of it
proved_of : (bytes : List ℕ) → status_of bytes ≡ check.Ok → Proves bytes
proved_of bytes e =
    let all = ok_is_accepted bytes e in
    let is = accepted_are_journals bytes all.0 all.1 all.2 in
    record {
      words = all.0;
      entries = all.1;
      journal = is.0;
      text = is.1;
      sound = journals_list_nothing_held bytes all.0 all.1 all.2;
      complete = journals_list_the_forgotten bytes all.0 all.1 all.2;
    }

proves_by : (s s' : SourceState) (k k' : SinkState) (run : EndsFrom journals s s' k k' check.Ok) → Proves run.taken × ((remaining : List ℕ) → IsLeft s'.left remaining → remaining ≡ [])
proves_by s s' k k' run =
    let none : (remaining : List ℕ) → IsLeft s'.left remaining → remaining ≡ [] =
    λ remaining left. append_cancel_left run.taken remaining [] (sym (run.ends remaining left).0 ∙ sym (append-nil run.taken)) in
    let some = some_left s'.left in
    let all = run.ends some.0 some.1 in
    (proved_of run.taken (ap status_of all.0 ∙ all.1.0), none)

proves : (s s' : SourceState) (k k' : SinkState) (ended : CheckStatus) (run : EndsFrom journals s s' k k' ended) → ended ≡ check.Ok → Proves run.taken × ((remaining : List ℕ) → IsLeft s'.left remaining → remaining ≡ [])
proves s s' k k' check.Ok run e = proves_by s s' k k' run
proves s s' k k' (check.Wrong n) run e = absurd (let z : ⊥ = cc in z)
proves s s' k k' check.ReadFault run e = absurd (let z : ⊥ = cc in z)
proves s s' k k' check.WriteFault run e = absurd (let z : ⊥ = cc in z)
proves s s' k k' check.NoMemory run e = absurd (let z : ⊥ = cc in z)
proves s s' k k' (check.BadWords n) run e = absurd (let z : ⊥ = cc in z)
proves s s' k k' check.TooLong run e = absurd (let z : ⊥ = cc in z)
proves s s' k k' (check.NotALine n) run e = absurd (let z : ⊥ = cc in z)
proves s s' k k' check.Cut run e = absurd (let z : ⊥ = cc in z)

-- by the bytes that the source has left
over_of : (s s' : SourceState) (k k' : SinkState) (ended : CheckStatus) (bytes : List ℕ) (c : Comes s s' k k' ended) → s.left ≡ Some bytes
    → (over : EndsOver journals bytes s s' k k' ended) × IsPrefix over.written (check_text bytes)
over_of s s' k k' ended bytes c is =
    let left = left_after s.left s'.left bytes c.run.taken is c.run.took in
    let run = c.run in (
      record {
        taken = run.taken;
        remaining = left.0;
        written = run.written;
        parts = left.1;
        left = left.2;
        came_out = run.came_out;
        ends = subst (λ b. Ends journals b run.taken run.written s s' k k' ended) (sym left.1) (run.ends left.0 left.3);
      },
      subst (λ x. IsPrefix run.written (check_text x)) (sym left.1) (c.within left.0 left.3),
    )

pub is_checked : (s s' : SourceState) (k k' : SinkState) (ended : CheckStatus) → Comes s s' k k' ended → IsChecked s s' k k' ended
is_checked s s' k k' ended c = record {
  good_words = λ n bad. has_cause journals s s' k k' ended c.run (ap cause_of bad);
  causes = c.run;
  ends = λ bytes is. over_of s s' k k' ended bytes c is;
  exact = λ bytes is r w m. ends_as_told journals s s' k k' ended bytes (ends_over journals s s' k k' ended bytes c.run is) r w (λ short. m (short_of_memory ended short));
  proves = proves s s' k k' ended c.run;
}
