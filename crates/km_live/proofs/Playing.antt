-- How a round goes on: mutators are hired one after another, run, and are taken in one after another.
use Rattle.std.proofs.Common.{◌≡◌, ℕ, suc, ◌+◌, ◌≤◌, ◌||◌, Bool, true, false, not, List, [], ◌∷◌, ◌++◌, length, map, refl, sym, ◌∙◌, ap, subst, arith, append_assoc, length-append}
use Rattle.std.specs.List.{AllZip, list_any}
use Rattle.std.proofs.lemmas.List.{map_push}
use Rattle.std.proofs.lemmas.List.Folds.{list_any-append}
use Rattle.atomic_table.specs.Seated.{TableId}
use Rattle.km_model.specs.Members.{Each}
use Rattle.km_numbered.specs.Members.{with_kept, with_next}
use Rattle.km_words.specs.Told.{WordStep}
use Rattle.km_rounds.specs.Journals.{Journal}
use Rattle.km_live_words.specs.Hands.{HandOn, Opened}
use Rattle.km_live_map.specs.Views.{TokenOf, after_join, after_split}
use Rattle.km_workers.specs.Workers.{standing}
use Rattle.km_live_workers.specs.declared.seats.Chief.{Chief}
use Rattle.km_live_workers.specs.declared.workers.Job.{Job as Task}
use Rattle.km_live_workers.specs.Runs.{HasRun, HasScanned, Working}
use Rattle.km_live_workers.specs.Seats.{IsChief, newly_at, newly_on}
use Rattle.km_live_workers.specs.Jobs.{job_of}
use Rattle.km_live.specs.Crews.{About, AreWaiting, HavePlayed, Sits, WereTakenIn, hired, hired_for, left_job, left_of, new_token}
use Rattle.km_live.specs.Left.{Left, taken_in}
use Rattle.km_live.proofs.Courses.{each_append}
use Rattle.km_live.proofs.Hired.{Dismissing, Hiring, has_scanned, have_left, hired_more, jobs_left, left_out}
use Rattle.km_live.proofs.Leaving.{each_weaker}
use Rattle.km_live.proofs.Waiting.{after_seat, after_unseat, seen_more, token_of_seat}

-- one more is taken in
taken_more : {A : Type 0} (own : Left → List A) (k : ℕ) (ls : List Left) (l : Left) (kept : List (ℕ × List A)) → taken_in own k (ls ++ l ∷ []) kept ≡ (k + length ls, own l) ∷ taken_in own k ls kept
taken_more own k [] l kept = ap (λ n. (n, own l) ∷ kept) (omega arith)
taken_more own k (x ∷ ls) l kept =
    let same : k + 1 + length ls ≡ k + suc (length ls) = omega arith in
    taken_more own (k + 1) ls l ((k, own x) ∷ kept) ∙ ap (λ n. (n, own l) ∷ taken_in own (k + 1) ls ((k, own x) ∷ kept)) same

length_mapped : {A B : Type 0} (f : A → B) (xs : List A) → length (map f xs) ≡ length xs
length_mapped f [] = refl
length_mapped f (x ∷ xs) = ap suc (length_mapped f xs)

module _ (live : Opened) (baton : TableId) (about : About) where
  -- what is known of the book is what the token knows
  pub own_about : (next : ℕ) (steps : List (ℕ × List WordStep)) (entries : List (ℕ × Journal)) (chief : Chief) → AreWaiting live baton about next steps entries chief → AreWaiting live baton chief.token.view.about next steps entries chief
  own_about next steps entries chief w = subst (λ a. AreWaiting live baton a next steps entries chief) (sym w.about) w

  -- a mutator as it is hired
  pub worker_is : (w : Working) (s : HandOn) (b : TokenOf) (chief : Chief) (k : ℕ) (job : Task) → AreWaiting live baton about k [] [] chief
      → (w.words ≡ s) × (w.book ≡ b) → s ≡ newly_on live k → b ≡ newly_at baton chief.token.view
      → (w.stand ≡ standing job.regs false) × (w.task ≡ job.task) × (w.lines ≡ job.lines.items) → w ≡ hired_for live baton about k job
  worker_is w s b chief k job waiting seat words book is =
      let hand = seat.0 ∙ words in
      let token = seat.1 ∙ (book ∙ token_of_seat live baton about k [] [] chief waiting) in
      λ i. record { words = hand i; book = token i; stand = is.0 i; task = is.1 i; lines = is.2 i }

  -- one more is hired
  pub hire_more : (jobs first : List Task) (ws : List Working) (capacity number : ℕ) (c d : Chief) (w : Working) (job : Task) → Hiring live baton about jobs first ws capacity number c
      → IsChief live baton d.hand d.token → d.hand.hand ≡ with_next c.hand.hand → d.token.view ≡ after_split c.token.view → w ≡ hired_for live baton about number job
      → Hiring live baton about jobs (first ++ job ∷ []) (ws ++ w ∷ []) capacity (number + 1) d
  hire_more jobs first ws capacity number c d w job h is hand token same =
      let longer = length-append first (job ∷ []) in
      let more = length-append ws (w ∷ []) in
      let many = h.many in let at = h.number in
      let one : w ≡ hired_for live baton about (2 + length first) job = same ∙ ap (λ n. hired_for live baton about n job) h.number in
      record {
        waiting = subst (λ n. AreWaiting live baton about n [] [] d) (omega (arith, longer)) (after_seat live baton about (2 + length first) [] [] c d h.waiting is hand token);
        hired = (λ i. h.hired i ++ one i ∷ []) ∙ sym (hired_more live baton about 2 first job);
        many = omega (arith, longer, more, many);
        room = h.room;
        number = omega (arith, longer, at);
      }

  -- one more is taken in
  pub dismiss_more : (next : ℕ) (steps : List (ℕ × List WordStep)) (entries : List (ℕ × Journal)) (ws first : List Working) (before c d : Chief) (done now : List Task) (capacity : ℕ) (full left : Bool) (w : Working) (job : Task)
      → Dismissing live baton about next steps entries ws first before c done now capacity full
      → IsChief live baton d.hand d.token → d.hand.hand ≡ with_kept c.hand.hand w.words.hand.hand → d.token.view ≡ after_join c.token.view w.book.view → Sits live baton (2 + length first) w
      → job_of job ≡ left_job w → left ≡ w.stand.full
      → Dismissing live baton about next steps entries ws (first ++ w ∷ []) before d done (now ++ job ∷ []) capacity (full || left)
  dismiss_more next steps entries ws first before c d done now capacity full left w job h is hand token sits one out =
      let t = h.taken_in in
      let longer = length-append first (w ∷ []) in
      let more = length-append now (job ∷ []) in
      let many = h.many in
      let seen = seen_more c.token.view w.book.view d.token.view token in
      let old = t.more in
      record {
        taken_in = record {
          waiting =
              subst (λ xs. AreWaiting live baton about next xs (taken_in (λ l. l.entries) 2 (map left_of (first ++ w ∷ [])) entries) d) (sym (taken (λ l. l.steps) steps))
              (subst (λ es. AreWaiting live baton about next ((2 + length first, w.words.hand.hand.own) ∷ taken_in (λ l. l.steps) 2 (map left_of first) steps) es d) (sym (taken (λ l. l.entries) entries))
              (after_unseat live baton about next (taken_in (λ l. l.steps) 2 (map left_of first) steps) (taken_in (λ l. l.entries) 2 (map left_of first) entries) c d w.words w.book (2 + length first) t.waiting is hand token sits.hand sits.token));
          more = omega (arith, old, seen.0);
          seen =
              each_append (λ (x : Working). x.book.view.most ≤ d.token.view.most) first (w ∷ [])
              (each_weaker (λ (x : Working). x.book.view.most ≤ c.token.view.most) (λ (x : Working). x.book.view.most ≤ d.token.view.most) (λ x most. let up = seen.0 in omega (arith, most, up)) first t.seen)
              (seen.1, tt);
        };
        jobs =
            map_push job_of now job
            ∙ ((λ i. h.jobs i ++ one i ∷ [])
            ∙ (append_assoc (map job_of done) (map left_job first) (left_job w ∷ []) ∙ ap (λ xs. map job_of done ++ xs) (sym (map_push left_job first w))));
        many = omega (arith, longer, more, many);
        room = h.room;
        full =
            (λ i. h.full i || out i)
            ∙ (ap (λ q. list_any (λ (x : Working). x.stand.full) first || q) (or_false w.stand.full) ∙ sym (list_any-append (λ (x : Working). x.stand.full) first (w ∷ [])));
      }
    where
      taken : {A : Type 0} (own : Left → List A) (kept : List (ℕ × List A)) → taken_in own 2 (map left_of (first ++ w ∷ [])) kept ≡ (2 + length first, own (left_of w)) ∷ taken_in own 2 (map left_of first) kept
      taken own kept =
          ap (λ ls. taken_in own 2 ls kept) (map_push left_of first w)
          ∙ (taken_more own 2 (map left_of first) (left_of w) kept ∙ ap (λ n. (2 + n, own (left_of w)) ∷ taken_in own 2 (map left_of first) kept) (length_mapped left_of first))

      or_false : (q : Bool) → q ≡ (q || false)
      or_false true = refl
      or_false false = refl

  -- what was taken in, by what the first ones know
  pub taken_as : (next : ℕ) (steps : List (ℕ × List WordStep)) (entries : List (ℕ × Journal)) (ws : List Working) (c d : Chief) → AreWaiting live baton about next steps entries c
      → WereTakenIn live baton c.token.view.about c.hand.hand.next c.hand.hand.kept c.token.view.member.kept ws c d → WereTakenIn live baton about next steps entries ws c d
  taken_as next steps entries ws c d w t =
      subst (λ es. WereTakenIn live baton about next steps es ws c d) (ap (λ m. m.kept) w.member)
      (subst (λ xs. WereTakenIn live baton about next xs c.token.view.member.kept ws c d) (ap (λ h. h.hand.kept) w.hand)
      (subst (λ n. WereTakenIn live baton about n c.hand.hand.kept c.token.view.member.kept ws c d) (ap (λ h. h.hand.next) w.hand)
      (subst (λ a. WereTakenIn live baton a c.hand.hand.next c.hand.hand.kept c.token.view.member.kept ws c d) w.about t)))

  -- all have played
  pub have_played : (jobs : List Task) (scans gap : ℕ) (t : HandOn) (b : TokenOf) (whole : Bool) (ws : List Working) (before after : Chief) (done : List Task) (full : Bool)
      → HasScanned (newly_on live 1) t (new_token baton about 1) b scans gap whole → AllZip HasRun (hired live baton about 2 jobs) ws
      → b.view.most ≤ before.token.view.most
      → WereTakenIn live baton about (2 + length jobs) ((1, t.hand.hand.own) ∷ []) ((1, b.view.member.own) ∷ []) ws before after
      → map job_of done ≡ map left_job ws → full ≡ list_any (λ (w : Working). w.stand.full) ws
      → HavePlayed live baton about jobs scans gap after done (not whole || full)
  have_played jobs scans gap t b whole ws before after done full scan ran most taken same out =
      let s = has_scanned live baton about t b scans gap whole scan in
      let more = taken.more in
      record {
        scanned = s.0;
        most = b.view.most;
        whole = whole;
        ls = map left_of ws;
        waiting =
            subst (λ xs. AreWaiting live baton about (2 + length jobs) (taken_in (λ l. l.steps) 2 (map left_of ws) ((1, xs) ∷ [])) (taken_in (λ l. l.entries) 2 (map left_of ws) ((1, s.0) ∷ [])) after) s.2
            (subst (λ es. AreWaiting live baton about (2 + length jobs) (taken_in (λ l. l.steps) 2 (map left_of ws) ((1, t.hand.hand.own) ∷ [])) (taken_in (λ l. l.entries) 2 (map left_of ws) ((1, es) ∷ [])) after) s.1 taken.waiting);
        scan = s.3;
        left = have_left live baton about 2 jobs ws ran;
        seen = (omega (arith, most, more), each_mapped ws taken.seen);
        jobs = same ∙ jobs_left live baton about 2 jobs ws ran;
        cut = ap (λ q. not whole || q) (out ∙ left_out ws);
      }
    where
      each_mapped : (xs : List Working) → Each (λ (w : Working). w.book.view.most ≤ after.token.view.most) xs → Each (λ (l : Left). l.most ≤ after.token.view.most) (map left_of xs)
      each_mapped [] all = tt
      each_mapped (x ∷ xs) all = (all.0, each_mapped xs all.1)
