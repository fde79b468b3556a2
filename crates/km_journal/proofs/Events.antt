-- An event that is replayed with the value that its line tells.
use Rattle.std.proofs.Common.{◌≡◌, ℕ, ◌+◌, ◌-◌, ◌*◌, ◌/◌, ◌%◌, ◌^◌, ◌<◌, ◌≤◌, ◌==◌, ◌&&◌, not, nat_le, nat_lt, Bool, true, false, List, [], ◌∷◌, length, map, cond, Option, Some, None, IfSome, if◌then◌else◌, replicate, refl, ap, sym, subst, ◌∙◌, arith, ltb-true}
use Rattle.std.proofs.lemmas.Bool.{and_parts}
use Rattle.std.proofs.lemmas.List.{get_or-replicate}
use Rattle.std.proofs.lemmas.List.Recursion.{is_count_by}
use Rattle.km_base.specs.declared.acts.Act.{Act}
use Rattle.km_base.specs.declared.acts.Act.TheVariants.{Load, Step, File, Read}
use Rattle.km_base.specs.declared.acts.FileCmd.TheVariants.{Dump}
use Rattle.km_base.specs.declared.acts.Answer.{Answer}
use Rattle.km_base.specs.declared.acts.Answer.TheVariants as answer
use Rattle.km_base.specs.declared.acts.Refusal.TheVariants.{NoTask, BadAddress, NoScanRunning}
use Rattle.km_model.specs.History.{History, value_of}
use Rattle.km_model.specs.Memory.{base, in_memory, index_of, word_at}
use Rattle.km_model.specs.Past.{Past, Place, completes, is_loaded, world, running_scan, scans}
use Rattle.km_model.specs.Scan.{next}
use Rattle.km_model.specs.Verdict.{listing, new_blocks}
use Rattle.km_model.specs.Answers.{answer as answer_of, unless, has_task}
use Rattle.km_model.specs.Follows.{past_of}
use Rattle.km_state.specs.State.{State, listing_in}
use Rattle.km_state.specs.StateAfter.{changed, state_after}
use Rattle.km_state.proofs.StandsLaws.{listing_stands}
use Rattle.km_track.specs.Tracker.{Tracker, tracked_in}
use Rattle.km_words.specs.Told.{Told}
use Rattle.km_core.specs.declared.settings.Settings.{Settings}
use Rattle.km_core.specs.Cores.{Seen, Stands}
use Rattle.km_core.specs.Parts.{Touches}
use Rattle.km_rounds.specs.declared.entry.Entry.{Entry}
use Rattle.km_entries.specs.File.{Going, history_in, listed_after, scans_completed, with_entry}
use Rattle.km_journal.specs.declared.replay.Replay.{Replay}
use Rattle.km_journal.specs.Telling.{telling}
use Rattle.km_journal.specs.Judging.{TellsRead}
use Rattle.km_journal.specs.Replays.{HasListing, IsAt, Owes, Stood}

loaded_other : (c d : Bool) (a u v : ℕ) → is_loaded (unless c NoTask (unless d BadAddress (answer.Loaded a u))) ≡ false
    → unless c NoTask (unless d BadAddress (answer.Loaded a v)) ≡ unless c NoTask (unless d BadAddress (answer.Loaded a u))
loaded_other true d a u v e = refl
loaded_other false true a u v e = refl
loaded_other false false a u v e = absurd (cc)

stepped_other : (p : Past) (r : Option ℕ) (o : Option Place) (u v : ℕ)
    → is_loaded (elim r as (λ _. Answer) [ None ↦ answer.Refused NoScanRunning | Some _ ↦ elim o as (λ _. Answer) [ None ↦ answer.Ended (scans p) (length (new_blocks p)) | Some x ↦ answer.Loaded x.word u ] ]) ≡ false
    → elim r as (λ _. Answer) [ None ↦ answer.Refused NoScanRunning | Some _ ↦ elim o as (λ _. Answer) [ None ↦ answer.Ended (scans p) (length (new_blocks p)) | Some x ↦ answer.Loaded x.word v ] ]
    ≡ elim r as (λ _. Answer) [ None ↦ answer.Refused NoScanRunning | Some _ ↦ elim o as (λ _. Answer) [ None ↦ answer.Ended (scans p) (length (new_blocks p)) | Some x ↦ answer.Loaded x.word u ] ]
stepped_other p None o u v e = refl
stepped_other p (Some k) None u v e = refl
stepped_other p (Some k) (Some x) u v e = absurd (cc)

-- an answer that brings no value is the answer to any value
other_value : (words : ℕ) (p : Past) (act : Act) (u v : ℕ) → is_loaded (answer_of words p act u) ≡ false → answer_of words p act v ≡ answer_of words p act u
unfolding answer_of
other_value words p (Load task reg a) u v e = loaded_other (not (has_task (world p) task)) (not (in_memory words a)) a u v e
other_value words p Step u v e = stepped_other p (running_scan p) (next p) u v e
other_value words p (File (Dump a)) u v e = refl
other_value words p (File word) u v e = refl
other_value words p act u v e = refl

index_below : (words a : ℕ) → in_memory words a ≡ true → index_of a < words
index_below words a h =
    let both = and_parts (nat_le base a && (a - base) % 8 == 0) (nat_lt (a - base) (8 * words)) h in
    low_enough (a - base) words (ltb-true (a - base) (8 * words) both.1)
  where
    low_enough : (d n : ℕ) → d < 8 * n → d / 8 < n
    low_enough d n less = omega (arith, less)

-- each word gives the value that is told
told_word : (words value a : ℕ) → in_memory words a ≡ true → word_at (replicate words value) a ≡ value
told_word words value a h = get_or-replicate words (index_of a) value 0 (index_below words a h)

-- an event's answer is the one to the value that is told
pub answer_told : (words size value : ℕ) (p : Past) (act : Act) (given : Answer) (u : Told) → Touches act given (telling size value) u
    → given ≡ answer_of words p act (value_of given) → given ≡ answer_of words p act value
answer_told words size value p act (answer.Loaded a v) u touches e =
    let same : v ≡ value = touches.given ∙ told_word size value a touches.word in
    e ∙ ap (answer_of words p act) same
answer_told words size value p act answer.Done u touches e = e ∙ sym (other_value words p act 0 value (ap is_loaded (sym e)))
answer_told words size value p act (answer.At a) u touches e = e ∙ sym (other_value words p act 0 value (ap is_loaded (sym e)))
answer_told words size value p act (answer.Ended k n) u touches e = e ∙ sym (other_value words p act 0 value (ap is_loaded (sym e)))
answer_told words size value p act (answer.Stopped k) u touches e = e ∙ sym (other_value words p act 0 value (ap is_loaded (sym e)))
answer_told words size value p act answer.Skipped u touches e = e ∙ sym (other_value words p act 0 value (ap is_loaded (sym e)))
answer_told words size value p act (answer.Dumped i) u touches e = e ∙ sym (other_value words p act 0 value (ap is_loaded (sym e)))
answer_told words size value p act (answer.Refused r) u touches e = e ∙ sym (other_value words p act 0 value (ap is_loaded (sym e)))

-- the moment of the core is that of the history
pub moment_is : (r : Replay) (words : ℕ) (ns : List Entry) (owed : List ℕ) → Stood r words ns owed → r.core.parts.settings.now ≡ (world (past_of (history_in ns))).now
moment_is r words ns owed s = sym (ap (λ (x : Settings). x.now) s.stands.parts.hosts.settings) ∙ s.stands.history.moment

-- as many events as entries
pub events_are : (ns : List Entry) → length (history_in ns) ≡ length ns
events_are [] = refl
events_are (n ∷ ns) = let h = events_are ns in omega (arith, h)

-- a read changes no listing
listing_kept : (core core' : Seen) (h : History) (s : State) (act : Act) (given : Answer) → Stands core h s → Stands core' (record { act = act; answer = given } ∷ h) (state_after s act given)
    → HasListing (past_of h) act given core'.parts.objects.tracker
unfolding changed
listing_kept core core' h s act given stands after = λ reads done.
    let kept : (state_after s act given).tracked ≡ s.tracked = ap (λ (a : Act). (state_after s a given).tracked) reads ∙ ap (λ (x : Answer). (state_after s Read x).tracked) done in
    sym (listing_stands core.parts.words h s stands.history) ∙ ap listing_in (sym kept) ∙ ap listing_in after.parts.objects.tracked

-- the number of completed scans, one event after another
counted : List Entry → ℕ
counted [] = 0
counted (n ∷ ns) = cond (completes n.answer) (1 + counted ns) (counted ns)

counted_is : (ns : List Entry) → counted ns ≡ scans_completed ns
unfolding counted
counted_is ns = is_count_by counted (λ (n : Entry). completes n.answer) refl (λ n ns. refl) ns

scans_more : (n : Entry) (ns : List Entry) → (if completes n.answer then 1 + scans_completed ns else scans_completed ns) ≡ scans_completed (n ∷ ns)
unfolding counted
scans_more n ns = ap (λ k. cond (completes n.answer) (1 + k) k) (sym (counted_is ns)) ∙ counted_is (n ∷ ns)

-- an event was made
pub record Made (r r' : Replay) (core : Seen) (act : Act) (given : Answer) : Type 0 where
  pub is_read : Bool
  pub reads : TellsRead act is_read
  pub core_is : r'.core ≡ core
  pub over : r'.over ≡ r.over
  pub stands : (h : History) (s : State) → Stands r.core h s → Stands core (record { act = act; answer = given } ∷ h) (state_after s act given)
  pub words : core.parts.words ≡ r.core.parts.words
  pub owes : (past : Past) (a : Act) → TellsRead a is_read → HasListing past a given core.parts.objects.tracker → Owes core.parts.objects.tracker r'.owed (listed_after past a given)
  pub scans : r'.scans ≡ (if completes given then 1 + r.scans else r.scans)

pub stood_made : (r r' : Replay) (core : Seen) (words by : ℕ) (ns : List Entry) (act : Act) (given : Answer) → Made r r' core act given → IsAt r (Going words ns []) → IsAt r' (with_entry words ns by act given)
stood_made r r' core words by ns act given m at =
    let stood = at.0 in
    let h = history_in ns in
    let after = m.stands h stood.state stood.stands in
    let owed = listed_after (past_of h) act given in (
      record {
        state = state_after stood.state act given;
        stands = subst (λ (c : Seen). Stands c (record { act = act; answer = given } ∷ h) (state_after stood.state act given)) (sym m.core_is) after;
        size = ap (λ (c : Seen). c.parts.words) m.core_is ∙ m.words ∙ stood.size;
        scans = m.scans ∙ ap (λ n. if completes given then 1 + n else n) stood.scans ∙ scans_more (record { by = by; act = act; answer = given }) ns;
        owes = subst (λ (c : Seen). Owes c.parts.objects.tracker r'.owed owed) (sym m.core_is) (m.owes (past_of h) act m.reads (listing_kept r.core core h stood.state act given stood.stands after));
      },
      m.over ∙ at.1,
    )
