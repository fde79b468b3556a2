-- What the workers of a round left, gathered from the words, the book and the first hand and token.
use Rattle.std.proofs.Common.{◌≡◌, ◌≢◌, ℕ, suc, ◌+◌, ◌≤◌, ◌<◌, ◌==◌, ◌||◌, Bool, true, false, List, [], ◌∷◌, length, map, slice_get, Option, Some, None, if◌then◌else◌, refl, sym, ◌∙◌, ap, subst, arith, eq-eqb}
use Rattle.std.proofs.lemmas.Bool.{both_ways}
use Rattle.atomic_table.specs.Seated.{TableId}
use Rattle.km_core.specs.Cores.{Seen}
use Rattle.km_model.specs.Headline.{IsMemorySize}
use Rattle.km_model.specs.History.{History}
use Rattle.km_numbered.specs.Members.{IsAlone, KnowsAll, has}
use Rattle.km_rounds.specs.Orders.{IsLegal, steps_by, words_after}
use Rattle.km_rounds.specs.Journals.{FollowsOn, entries_by, with_journal}
use Rattle.km_live_model.specs.Rounds.{IsRound}
use Rattle.km_live_words.specs.Hands.{LeftBy, Opened}
use Rattle.km_live_map.specs.Books.{Book, IsBook, IsCoreFor}
use Rattle.km_live_map.specs.Views.{Knows}
use Rattle.km_live_workers.specs.declared.seats.Chief.{Chief}
use Rattle.km_live_workers.specs.declared.workers.Job.{Job as Task}
use Rattle.km_live_workers.specs.Jobs.{job_of}
use Rattle.km_live.specs.Crews.{HavePlayed, waiting}
use Rattle.km_live.specs.Left.{AllTakenIn, HaveLeft, Left, ends_of, taken_in}
use Rattle.km_live.specs.Made.{HasMade, MayRun}
use Rattle.km_live.proofs.Right.{right_after}
use Rattle.km_live.proofs.Leaving.{as_many, each_weaker, is_round}

-- what is known of a book at its begin tells what it was
same_about : (a b : Seen) (m n : ℕ) → ◌≡◌ {A = Option (Seen × ℕ)} (Some (a, m)) (Some (b, n)) → (a ≡ b) × (m ≡ n)
same_about a b m n e = let pair : ◌≡◌ {A = Seen × ℕ} (a, m) (b, n) = cc in (ap (λ p. p.0) pair, ap (λ p. p.1) pair)

module _ {A : Type 0} (own : Left → List A) where
  -- what was kept stays kept
  has_kept : (k : ℕ) (ls : List Left) (kept : List (ℕ × List A)) (j : ℕ) → has j kept ≡ true → has j (taken_in own k ls kept) ≡ true
  has_kept k [] kept j h = h
  has_kept k (l ∷ ls) kept j h = has_kept (k + 1) ls ((k, own l) ∷ kept) j (later (j == k))
    where
      later : (q : Bool) → (q || has j kept) ≡ true
      later true = refl
      later false = h

  -- each that was taken in is
  has_taken : (k : ℕ) (ls : List Left) (kept : List (ℕ × List A)) (j : ℕ) → k ≤ j → j < k + length ls → has j (taken_in own k ls kept) ≡ true
  has_taken k [] kept j low high = absurd (omega (arith, low, high))
  has_taken k (l ∷ ls) kept j low high = go (has_taken (k + 1) ls ((k, own l) ∷ kept) j) (j == k) refl
    where
      go : (k + 1 ≤ j → j < k + 1 + length ls → has j (taken_in own (k + 1) ls ((k, own l) ∷ kept)) ≡ true) → (q : Bool) → (j == k) ≡ q → has j (taken_in own (k + 1) ls ((k, own l) ∷ kept)) ≡ true
      go rest true is = has_kept (k + 1) ls ((k, own l) ∷ kept) j (ap (λ q. q || has j kept) is)
      go rest false is = let apart : j ≢ k = λ e. both_ways (j == k) is (eq-eqb j k e) in rest (omega (arith, low, apart)) (omega (arith, high))

  -- the first has taken all others in
  pub is_alone : (n : ℕ) (x : List A) (ls : List Left) → n ≡ 2 + length ls → IsAlone (waiting n (taken_in own 2 ls ((1, x) ∷ [])))
  is_alone n x ls many k pos below = go (k == 1) refl
    where
      go : (q : Bool) → (k == 1) ≡ q → has k (taken_in own 2 ls ((1, x) ∷ [])) ≡ true
      go true is = has_kept 2 ls ((1, x) ∷ []) k (ap (λ q. q || false) is)
      go false is = let apart : k ≢ 1 = λ e. both_ways (k == 1) is (eq-eqb k 1 e) in has_taken 2 ls ((1, x) ∷ []) k (omega (arith, pos, apart)) (omega (arith, below, many))

module _ (live : Opened) (baton : TableId) (memory : List ℕ) (same : live.words ≡ memory) (book : Book) (jobs : List Task) (scans gap : ℕ) (may : MayRun book memory jobs scans gap)
    (chief : Chief) (done : List Task) (cut : Bool) (p : HavePlayed live baton (Some (book.opening, book.entries)) jobs scans gap chief done cut) where
  many : length p.ls ≡ length jobs
  many = as_many (length live.words) book.entries 2 (map job_of jobs) p.ls p.left ∙ mapped jobs
    where
      mapped : (xs : List Task) → length (map job_of xs) ≡ length xs
      mapped [] = refl
      mapped (x ∷ xs) = ap suc (mapped xs)

  pub token_alone : IsAlone chief.token.view.member
  token_alone = subst IsAlone (sym p.waiting.member) (is_alone (λ l. l.entries) (2 + length jobs) p.scanned p.ls (omega (arith, many)))

  pub hand_alone : IsAlone chief.hand.hand
  hand_alone = subst IsAlone (sym (ap (λ h. h.hand) p.waiting.hand)) (is_alone (λ l. l.steps) (2 + length jobs) _ p.ls (omega (arith, many)))

  module _ (after : Book) (left : List ℕ) (is : IsBook after) (k : Knows chief.token.view after) (l : LeftBy live.words chief.hand.hand left) where
    about : ◌≡◌ {A = Option (Seen × ℕ)} (Some (after.opening, after.entries)) (Some (book.opening, book.entries))
    about = sym k.about ∙ p.waiting.about

    opening : after.opening ≡ book.opening
    opening = (same_about after.opening book.opening after.entries book.entries about).0

    entries : after.entries ≡ book.entries
    entries = (same_about after.opening book.opening after.entries book.entries about).1

    words : after.opening.parts.words ≡ length memory
    words = ap (λ (c : Seen). c.parts.words) opening ∙ sym may.words

    core : (h : History) → IsCoreFor book.opening h → FollowsOn after.opening.parts.words h after.journal × IsCoreFor after.core (with_journal h after.journal)
    core h stands = is.follows h (subst (λ c. IsCoreFor c h) (sym opening) stands)

    all_taken_in : (h : History) → IsCoreFor book.opening h
        → AllTakenIn (length memory) h memory (map job_of jobs) scans gap book.entries after.journal l.order p.scanned p.most p.whole p.ls
    all_taken_in h stands = record {
      follows = subst (λ n. FollowsOn n h after.journal) words (core h stands).0;
      room = subst (λ n. length after.journal ≤ n + 1) entries is.room;
      last = λ e at. is.last e (subst (λ n. slice_get after.journal n ≡ Some e) (sym entries) at);
      legal = subst (λ m. IsLegal m l.order) same l.legal;
      entries = subst (λ m. KnowsAll m (entries_by after.journal)) p.waiting.member (k.all (ap (λ m. m.number) p.waiting.member) token_alone);
      steps = subst (λ m. KnowsAll m (steps_by l.order)) (ap (λ h. h.hand) p.waiting.hand) l.parts;
      scan = p.scan;
      left = subst (λ m. HaveLeft (length m) book.entries 2 (map job_of jobs) p.ls) same p.left;
      seen = (
        (let most = p.seen.0 in let all = k.most in omega (arith, most, all)),
        each_weaker (λ (x : Left). x.most ≤ chief.token.view.most) (λ (x : Left). x.most ≤ length after.journal) (λ x most. let all = k.most in omega (arith, most, all)) p.ls p.seen.1,
      );
    }

    round_made : (h : History) → IsCoreFor book.opening h → IsRound (length memory) h memory (map job_of jobs) scans gap book.entries after.journal l.order (ends_of p.ls) cut
    round_made h stands =
        subst (λ q. IsRound (length memory) h memory (map job_of jobs) scans gap book.entries after.journal l.order (ends_of p.ls) q) (sym p.cut)
        (is_round (length memory) h memory (map job_of jobs) scans gap book.entries after.journal l.order p.scanned p.most p.whole p.ls (all_taken_in h stands))

    pub has_made : (full : Option ℕ) → full ≡ (if cut then Some book.entries else None) → HasMade book memory jobs scans gap after left done full
    has_made full told = record {
      order = l.order;
      ends = ends_of p.ls;
      is_cut = cut;
      about = (opening, entries);
      is_round = round_made;
      stands = λ h stands. (core h stands).1;
      is_right = λ h stands.
          right_after (length memory) h memory (map job_of jobs) scans gap book.entries after.journal l.order (ends_of p.ls) cut
          (subst IsMemorySize (sym may.words) may.begun.memory) (round_made h stands);
      words = l.leaves ∙ ap (λ m. words_after m l.order) same;
      jobs = p.jobs;
      full = told;
    }
