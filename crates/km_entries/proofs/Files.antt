-- A file that a check accepts is the journal of a history that follows.
use Rattle.std.proofs.Common.{◌≡◌, ℕ, ◌+◌, ◌%◌, ◌^◌, ◌<◌, ◌==◌, nat_le, Bool, true, false, ◌&&◌, List, [], ◌∷◌, ◌++◌, length, Option, Some, None, if◌then◌else◌, refl, ap, sym, subst, ◌∙◌, arith, inl, inr, eqb-true, leb-true, append_assoc}
use Rattle.std.proofs.lemmas.List.{append-nil}
use Rattle.std.proofs.lemmas.Bool.{cases_Bool, and_parts}
use Rattle.km_base.specs.declared.acts.Act.{Act}
use Rattle.km_base.specs.declared.acts.Answer.{Answer}
use Rattle.km_base.specs.declared.acts.Answer.TheVariants as answer
use Rattle.km_model.specs.History.{value_of}
use Rattle.km_model.specs.Past.{Past, world}
use Rattle.km_model.specs.Answers.{answer as answer_of}
use Rattle.km_model.specs.Follows.{Follows, past_of}
use Rattle.km_model.specs.Headline.{IsMemorySize}
use Rattle.km_model.specs.Output.{between_line_feeds, put_in_first}
use Rattle.km_entries.specs.declared.lines.Said.{Said}
use Rattle.km_entries.specs.declared.lines.JournalLine.{JournalLine}
use Rattle.km_entries.specs.declared.lines.JournalLine.TheVariants as line
use Rattle.km_entries.specs.declared.status.CheckStatus.TheVariants as check
use Rattle.km_entries.specs.Lines.{CanBeSaid, CanStand, journal_line_text, line_bytes, said_of}
use Rattle.km_entries.specs.Reading.{journal_line}
use Rattle.km_rounds.specs.declared.entry.Entry.{Entry}
use Rattle.km_entries.specs.File.{AreInRange, AreTimely, Checked, Unbegun, Going, Over, IsJournal, Outcome, Verdict, Right, IsWrong, IsNoLine, are_none, at_end, event_verdict, events_text, going_verdict, history_in, is_memory_size, is_too_late, journal_text, listed_after, listed_text, outcome_from, outcome_then, right_if, same_said, told_in, verdict, verdict_of, with_entry}
use Rattle.km_entries.proofs.Texts.{line_was}
use Rattle.km_entries.proofs.Same.{said_same}

-- pieces with a line feed between them
abbrev pub joined : List (List ℕ) → List ℕ
joined [] = []
joined (l ∷ []) = l
joined (l ∷ m ∷ ls) = l ++ 10 ∷ joined (m ∷ ls)

put_joined : (c : ℕ) (ls : List (List ℕ)) → joined (put_in_first c ls) ≡ c ∷ joined ls
put_joined c [] = refl
put_joined c (l ∷ []) = refl
put_joined c (l ∷ m ∷ ls) = refl

first_put : (c : ℕ) (ls : List (List ℕ)) → (m : List ℕ) × (ms : List (List ℕ)) × (put_in_first c ls ≡ m ∷ ms)
first_put c [] = (c ∷ [], [], refl)
first_put c (l ∷ ls) = (c ∷ l, ls, refl)

pub some_piece : (bytes : List ℕ) → (m : List ℕ) × (ms : List (List ℕ)) × (between_line_feeds bytes ≡ m ∷ ms)
some_piece [] = ([], [], refl)
some_piece (c ∷ cs) =
    elim (c == 10) as (λ b. (m : List ℕ) × (ms : List (List ℕ)) × ((if b then [] ∷ between_line_feeds cs else put_in_first c (between_line_feeds cs)) ≡ m ∷ ms)) [
      | true ↦ ([], between_line_feeds cs, refl)
      | false ↦ first_put c (between_line_feeds cs)
    ]

feed_before : (ls : List (List ℕ)) (m : List ℕ) (ms : List (List ℕ)) → ls ≡ m ∷ ms → joined ([] ∷ ls) ≡ 10 ∷ joined ls
feed_before [] m ms e = absurd (cc)
feed_before (l ∷ ls) m ms e = refl

pub joined_pieces : (bytes : List ℕ) → joined (between_line_feeds bytes) ≡ bytes
joined_pieces [] = refl
joined_pieces (c ∷ cs) =
    elim (cases_Bool (c == 10)) [
      | inl feed ↦
          let w : between_line_feeds (c ∷ cs) ≡ [] ∷ between_line_feeds cs = rw feed refl in
          let k = some_piece cs in
          let is : 10 ≡ c = sym (eqb-true c 10 feed) in
          ap joined w ∙ feed_before (between_line_feeds cs) k.0 k.1 k.2 ∙ ap (λ x. 10 ∷ x) (joined_pieces cs) ∙ ap (λ x. x ∷ cs) is
      | inr other ↦
          let w : between_line_feeds (c ∷ cs) ≡ put_in_first c (between_line_feeds cs) = rw other refl in
          ap joined w ∙ put_joined c (between_line_feeds cs) ∙ ap (λ x. c ∷ x) (joined_pieces cs)
    ]

-- the lines so far are those of a journal, but for the blocks that are still to be listed
pub record AtLine (front : List ℕ) (words : ℕ) (ns : List Entry) (owed : List ℕ) : Type 0 where
  pub memory : IsMemorySize words
  pub in_range : AreInRange ns
  pub follows : Follows words (history_in ns)
  pub timely : AreTimely ns
  pub text : front ++ listed_text owed ≡ journal_line_text (line.Head words) ++ events_text ns

abbrev pub IsSoFar : List ℕ → Checked → Type 0
IsSoFar front Unbegun = front ≡ []
IsSoFar front (Going words ns owed) = AtLine front words ns owed
IsSoFar front (Over words ns) = IsJournal words ns × (front ≡ journal_text words ns)

abbrev after_of : Verdict → Checked
after_of (Right x) = x
after_of IsWrong = Unbegun
after_of IsNoLine = Unbegun

right_was : (b : Bool) (c d : Checked) → right_if b c ≡ Right d → (b ≡ true) × (c ≡ d)
right_was true c d e = (refl, ap after_of e)
right_was false c d e = absurd (let z : ⊥ = cc in z)

no_right : (d : Checked) → IsNoLine ≡ Right d → ⊥
no_right d e = cc

wrong_right : (d : Checked) → IsWrong ≡ Right d → ⊥
wrong_right d e = cc

pub size_was : (words : ℕ) → is_memory_size words ≡ true → IsMemorySize words
size_was words e =
    let one = and_parts (words % 512 == 0 && nat_le 512 words) (nat_le words 4194304) e in
    let two = and_parts (words % 512 == 0) (nat_le 512 words) one.0 in
    (leb-true 512 words two.1, leb-true words 4194304 one.1, eqb-true (words % 512) 0 two.0)

-- the first line
head_step : (words : ℕ) (bytes : List ℕ) (c : Checked) → bytes ≡ line_bytes (line.Head words) → (if is_memory_size words then Right (Going words [] []) else IsNoLine) ≡ Right c → IsSoFar (bytes ++ 10 ∷ []) c
head_step words bytes c is e = by_size (is_memory_size words) refl e
  where
    by_size : (b : Bool) → is_memory_size words ≡ b → (if b then Right (Going words [] []) else IsNoLine) ≡ Right c → IsSoFar (bytes ++ 10 ∷ []) c
    by_size true t k =
        subst (IsSoFar (bytes ++ 10 ∷ [])) (right_was true (Going words [] []) c k).1 (record {
          memory = size_was words t;
          in_range = tt;
          follows = tt;
          timely = tt;
          text = ap (λ x. (x ++ 10 ∷ []) ++ []) is ∙ append-nil (journal_line_text (line.Head words)) ∙ sym (append-nil (journal_line_text (line.Head words)));
        })
    by_size false t k = absurd (no_right c k)

-- the answer that a line is held against
abbrev given_of : ℕ → List Entry → Act → Said → Answer
given_of words ns a s = answer_of words (past_of (history_in ns)) a (told_in s)

-- an answer doesn't change where it brings its own value
module _ (answer_again : (words : ℕ) (p : Past) (a : Act) (v : ℕ) → answer_of words p a (value_of (answer_of words p a v)) ≡ answer_of words p a v) where
  event_step : (front : List ℕ) (words : ℕ) (ns : List Entry) (owed : List ℕ) (by : ℕ) (a : Act) (s : Said) (bytes : List ℕ) (c : Checked) → bytes ≡ line_bytes (line.Event by a s) → CanStand (line.Event by a s)
      → AtLine front words ns owed → going_verdict words ns owed (line.Event by a s) ≡ Right c → IsSoFar (front ++ (bytes ++ 10 ∷ [])) c
  event_step front words ns owed by a s bytes c is stand at e = by_time (is_too_late (world (past_of (history_in ns))).now a) refl e
    where
      made : (given' : Answer) → given' ≡ given_of words ns a s → owed ≡ [] → is_too_late (world (past_of (history_in ns))).now a ≡ false → said_of given' ≡ s → with_entry words ns by a given' ≡ c → IsSoFar (front ++ (bytes ++ 10 ∷ [])) c
      made given' g none time same after =
          subst (IsSoFar (front ++ (bytes ++ 10 ∷ []))) after (record {
            memory = at.memory;
            in_range = (stand.0, stand.1, subst CanBeSaid (sym same) stand.2, at.in_range);
            follows = (sym (ap (λ x. answer_of words (past_of (history_in ns)) a (value_of x)) g ∙ answer_again words (past_of (history_in ns)) a (told_in s) ∙ sym g), small given' same, at.follows);
            timely = (time, at.timely);
            text = text given' same none;
          })
        where
          small : (x : Answer) → said_of x ≡ s → value_of x < 2 ^ 64
          small answer.Done q = omega arith
          small (answer.At b) q = omega arith
          small (answer.Loaded b v) q = (subst CanBeSaid (sym q) stand.2).1
          small (answer.Ended k m) q = omega arith
          small (answer.Stopped k) q = omega arith
          small answer.Skipped q = omega arith
          small (answer.Dumped i) q = omega arith
          small (answer.Refused r) q = omega arith

          text : (x : Answer) → said_of x ≡ s → owed ≡ []
              → (front ++ (bytes ++ 10 ∷ [])) ++ listed_text (listed_after (past_of (history_in ns)) a x)
              ≡ journal_line_text (line.Head words) ++ (events_text ns ++ (journal_line_text (line.Event by a (said_of x)) ++ listed_text (listed_after (past_of (history_in ns)) a x)))
          text x q none =
              let more = listed_text (listed_after (past_of (history_in ns)) a x) in
              let so_far : front ≡ journal_line_text (line.Head words) ++ events_text ns = sym (ap (λ o. front ++ listed_text o) none ∙ append-nil front) ∙ at.text in
              let one : bytes ++ 10 ∷ [] ≡ journal_line_text (line.Event by a (said_of x)) = ap (λ b. b ++ 10 ∷ []) (is ∙ ap (λ y. line_bytes (line.Event by a y)) (sym q)) in
              ap (λ f. (f ++ (bytes ++ 10 ∷ [])) ++ more) so_far
              ∙ ap (λ f. ((journal_line_text (line.Head words) ++ events_text ns) ++ f) ++ more) one
              ∙ append_assoc (journal_line_text (line.Head words) ++ events_text ns) (journal_line_text (line.Event by a (said_of x))) more
              ∙ append_assoc (journal_line_text (line.Head words)) (events_text ns) (journal_line_text (line.Event by a (said_of x)) ++ more)

      by_same : owed ≡ [] → is_too_late (world (past_of (history_in ns))).now a ≡ false → right_if (same_said (said_of (given_of words ns a s)) s) (with_entry words ns by a (given_of words ns a s)) ≡ Right c → IsSoFar (front ++ (bytes ++ 10 ∷ [])) c
      by_same none time k =
          let r = right_was (same_said (said_of (given_of words ns a s)) s) (with_entry words ns by a (given_of words ns a s)) c k in
          made (given_of words ns a s) refl none time (said_same (said_of (given_of words ns a s)) s r.0) r.1

      by_owed : (o : List ℕ) → owed ≡ o → is_too_late (world (past_of (history_in ns))).now a ≡ false → (if are_none o then event_verdict words ns by a s else IsWrong) ≡ Right c → IsSoFar (front ++ (bytes ++ 10 ∷ [])) c
      by_owed [] none time k = by_same none time k
      by_owed (b ∷ o) some time k = absurd (wrong_right c k)

      by_time : (b : Bool) → is_too_late (world (past_of (history_in ns))).now a ≡ b → (if b then IsNoLine else (if are_none owed then event_verdict words ns by a s else IsWrong)) ≡ Right c → IsSoFar (front ++ (bytes ++ 10 ∷ [])) c
      by_time true t k = absurd (no_right c k)
      by_time false t k = by_owed owed refl t k

  listed_step : (front : List ℕ) (words : ℕ) (ns : List Entry) (owed : List ℕ) (a : ℕ) (bytes : List ℕ) (c : Checked) → bytes ≡ line_bytes (line.Listed a)
      → AtLine front words ns owed → going_verdict words ns owed (line.Listed a) ≡ Right c → IsSoFar (front ++ (bytes ++ 10 ∷ [])) c
  listed_step front words ns [] a bytes c is at e = absurd (wrong_right c e)
  listed_step front words ns (b ∷ owed) a bytes c is at e =
      let r = right_was (a == b) (Going words ns owed) c e in
      let same : a ≡ b = eqb-true a b r.0 in
      let one : bytes ++ 10 ∷ [] ≡ journal_line_text (line.Listed b) = ap (λ x. x ++ 10 ∷ []) (is ∙ ap (λ x. line_bytes (line.Listed x)) same) in
      subst (IsSoFar (front ++ (bytes ++ 10 ∷ []))) r.1 (record {
        memory = at.memory;
        in_range = at.in_range;
        follows = at.follows;
        timely = at.timely;
        text = append_assoc front (bytes ++ 10 ∷ []) (listed_text owed) ∙ ap (λ x. front ++ (x ++ listed_text owed)) one ∙ at.text;
      })

  end_step : (front : List ℕ) (words : ℕ) (ns : List Entry) (owed : List ℕ) (n : ℕ) (bytes : List ℕ) (c : Checked) → bytes ≡ line_bytes (line.End n)
      → AtLine front words ns owed → going_verdict words ns owed (line.End n) ≡ Right c → IsSoFar (front ++ (bytes ++ 10 ∷ [])) c
  end_step front words ns owed n bytes c is at e =
      let r = right_was (are_none owed && n == length ns) (Over words ns) c e in
      let parts = and_parts (are_none owed) (n == length ns) r.0 in
      let same : n ≡ length ns = eqb-true n (length ns) parts.1 in
      let one : bytes ++ 10 ∷ [] ≡ journal_line_text (line.End (length ns)) = ap (λ x. x ++ 10 ∷ []) (is ∙ ap (λ x. line_bytes (line.End x)) same) in
      let so_far : front ≡ journal_line_text (line.Head words) ++ events_text ns = sym (ap (λ o. front ++ listed_text o) (none owed parts.0) ∙ append-nil front) ∙ at.text in
      subst (IsSoFar (front ++ (bytes ++ 10 ∷ []))) r.1 (
        record { memory = at.memory; in_range = at.in_range; follows = at.follows; timely = at.timely },
        ap (λ f. f ++ (bytes ++ 10 ∷ [])) so_far ∙ ap (λ f. (journal_line_text (line.Head words) ++ events_text ns) ++ f) one,
      )
    where
      none : (o : List ℕ) → are_none o ≡ true → o ≡ []
      none [] t = refl
      none (b ∷ o) t = absurd (cc)

  -- a line that is right
  line_step : (front : List ℕ) (c d : Checked) (l : JournalLine) (bytes : List ℕ) → bytes ≡ line_bytes l → CanStand l → IsSoFar front c → verdict_of c l ≡ Right d → IsSoFar (front ++ (bytes ++ 10 ∷ [])) d
  line_step front Unbegun d (line.Head words) bytes is stand so e = subst (λ f. IsSoFar (f ++ (bytes ++ 10 ∷ [])) d) (sym so) (head_step words bytes d is e)
  line_step front Unbegun d (line.Event by a s) bytes is stand so e = absurd (no_right d e)
  line_step front Unbegun d (line.Listed a) bytes is stand so e = absurd (no_right d e)
  line_step front Unbegun d (line.End n) bytes is stand so e = absurd (no_right d e)
  line_step front (Going words ns owed) d (line.Head n) bytes is stand so e = absurd (no_right d e)
  line_step front (Going words ns owed) d (line.Event by a s) bytes is stand so e = event_step front words ns owed by a s bytes d is stand so e
  line_step front (Going words ns owed) d (line.Listed a) bytes is stand so e = listed_step front words ns owed a bytes d is so e
  line_step front (Going words ns owed) d (line.End n) bytes is stand so e = end_step front words ns owed n bytes d is so e
  line_step front (Over words ns) d l bytes is stand so e = absurd (no_right d e)

  right_step : (front : List ℕ) (c d : Checked) (bytes : List ℕ) → IsSoFar front c → verdict c bytes ≡ Right d → IsSoFar (front ++ (bytes ++ 10 ∷ [])) d
  right_step front c d bytes so e = by_line (journal_line bytes) refl
    where
      by_line : (o : Option JournalLine) → journal_line bytes ≡ o → IsSoFar (front ++ (bytes ++ 10 ∷ [])) d
      by_line None t = absurd (no_right d (sym (ap (λ o. elim o as (λ _. Verdict) [ None ↦ IsNoLine | Some l ↦ verdict_of c l ]) t) ∙ e))
      by_line (Some l) t =
          let was = line_was bytes l t in
          line_step front c d l bytes was.0 was.1 so (sym (ap (λ o. elim o as (λ _. Verdict) [ None ↦ IsNoLine | Some l ↦ verdict_of c l ]) t) ∙ e)

  -- a check that accepts the lines that are left was of a journal
  pub accepted : (n : ℕ) (front : List ℕ) (c : Checked) (ps : List (List ℕ)) (words : ℕ) (ns : List Entry) → IsSoFar front c → outcome_from at_end n c ps ≡ record { status = check.Ok; after = Over words ns }
      → IsJournal words ns × (front ++ joined ps ≡ journal_text words ns)
  accepted n front c [] words ns so e = last (λ x. front ++ x) c [] so (append-nil front) (ap (λ o. o.status) e) (ap (λ o. o.after) e)
    where
      last : (List ℕ → List ℕ) → (c : Checked) (rest : List ℕ) → IsSoFar front c → front ++ rest ≡ front → at_end n c rest ≡ check.Ok → c ≡ Over words ns → IsJournal words ns × (front ++ rest ≡ journal_text words ns)
      last f c rest so r ok over = let k = subst (IsSoFar front) over so in (k.0, r ∙ k.1)
  accepted n front c (l ∷ []) words ns so e = end l (ap (λ o. o.status) e) (ap (λ o. o.after) e)
    where
      end : (rest : List ℕ) → at_end n c rest ≡ check.Ok → c ≡ Over words ns → IsJournal words ns × (front ++ rest ≡ journal_text words ns)
      end [] ok over = let k = subst (IsSoFar front) over so in (k.0, append-nil front ∙ k.1)
      end (b ∷ bs) ok over = absurd (cc)
  accepted n front c (l ∷ m ∷ ls) words ns so e = by_verdict (λ d s. accepted (n + 1) (front ++ (l ++ 10 ∷ [])) d (m ∷ ls) words ns s) (verdict c l) refl e
    where
      by_verdict : ((d : Checked) → IsSoFar (front ++ (l ++ 10 ∷ [])) d → outcome_from at_end (n + 1) d (m ∷ ls) ≡ record { status = check.Ok; after = Over words ns } → IsJournal words ns × ((front ++ (l ++ 10 ∷ [])) ++ joined (m ∷ ls) ≡ journal_text words ns))
          → (v : Verdict) → verdict c l ≡ v → outcome_then n c v (λ after. outcome_from at_end (n + 1) after (m ∷ ls)) ≡ record { status = check.Ok; after = Over words ns } → IsJournal words ns × (front ++ (l ++ 10 ∷ joined (m ∷ ls)) ≡ journal_text words ns)
      by_verdict on (Right d) t k =
          let r = on d (right_step front c d l so t) k in
          (r.0, sym (append_assoc front (l ++ 10 ∷ []) (joined (m ∷ ls)) ∙ ap (λ x. front ++ x) (append_assoc l (10 ∷ []) (joined (m ∷ ls)))) ∙ r.1)
      by_verdict on IsWrong t k = absurd (let s : check.Wrong n ≡ check.Ok = ap (λ (o : Outcome). o.status) k in cc)
      by_verdict on IsNoLine t k = absurd (let s : check.NotALine n ≡ check.Ok = ap (λ (o : Outcome). o.status) k in cc)
