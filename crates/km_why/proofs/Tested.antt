-- A list that is checked from its prefix.
use Rattle.std.proofs.Common.{◌≡◌, ℕ, zero, suc, ◌+◌, ◌<◌, ◌≤◌, ◌==◌, inl, inr, Bool, true, false, ◌&&◌, ◌||◌, not, cond, List, [], ◌∷◌, ◌++◌, length, take, drop, get_or, Option, Some, None, find, refl, sym, ◌∙◌, ap, subst, arith, eq-eqb, if◌then◌else◌, option_map}
use Rattle.std.specs.List.{list_any, cons_option}
use Rattle.std.proofs.lemmas.Bool.{or_left, or_right, and_parts}
use Rattle.km_model.proofs.Cases.{elim_false, not_true}
use Rattle.km_model.proofs.Lists.{Each, Pairs, In, each_in, in_each, each_push, pairs_push, pairs_in, find_in, map_in}
use Rattle.km_model.specs.Blocks.{Block, is_black}
use Rattle.km_model.specs.Tasks.{Task}
use Rattle.km_model.specs.Held.{Standing, is_supported}
use Rattle.km_certificates.specs.Certificates.{is_member, may_follow, first_unfit}
use Rattle.km_record.specs.declared.kinds.RecId.{RecId}
use Rattle.km_state.specs.State.{Tracked}
use Rattle.km_track.specs.Tracker.{Live, Tracker, is_id, is_live, tracked_in}
use Rattle.km_track.proofs.Lives.{found_its, is_its}
use Rattle.km_why.specs.Told.{AreApart, AreLaidOut, IsInMemory, IsOfWords, block_by, blocks_by, blocks_of, stacks_of, standing_of}
use Rattle.km_why.specs.References.{is_enough, sources}
use Rattle.km_why.proofs.Sources.{IsSource, enough_same}
use Rattle.km_why.proofs.Chosen.{drop_at, drop_over}

-- a live block with an id
pub record IsBlock (t : Tracker) (id : RecId) : Type 0 where
  pub block : Block
  pub is : block_by t id ≡ Some block
  pub number : block.id ≡ id.generation
  pub live : In block (blocks_of t)

pub live_block : (t : Tracker) (id : RecId) → is_live id t ≡ true → IsBlock t id
live_block t id e = go t.live e (λ l f. f)
  where
    there : (l : Live) → find (is_id id) t.live ≡ Some l → IsBlock t id
    there l f = record {
      block = l.tracked.block;
      is = ap (option_map (λ (x : Live). x.tracked.block)) f;
      number = (is_its id l (found_its id t.live l f)).1;
      live = map_in (λ (x : Tracked). x.block) (tracked_in t) l.tracked (map_in (λ (x : Live). x.tracked) t.live l (find_in (is_id id) t.live l f).1);
    }

    go : (ls : List Live) → list_any (is_id id) ls ≡ true → ((l : Live) → find (is_id id) ls ≡ Some l → find (is_id id) t.live ≡ Some l) → IsBlock t id
    go [] f same = absurd (elim_false f)
    go (l ∷ ls) f same = elim (is_id id l) as (λ q. (q || list_any (is_id id) ls) ≡ true → ((x : Live) → cond q (Some l) (find (is_id id) ls) ≡ Some x → find (is_id id) t.live ≡ Some x) → IsBlock t id) [
      | true ↦ λ _ s. there l (s l refl)
      | false ↦ λ g s. go ls g s
    ] f same

-- the blocks before a place lie in the memory and never meet
pub record IsApart (t : Tracker) (before : List Block) : Type 0 where
  pub inside : Each (λ b. In b (blocks_of t)) before
  pub apart : Pairs (λ (b c : Block). AreApart b.start b.size c.start c.size) before

other : (a size c rest : ℕ) → AreApart a size c rest → AreApart c rest a size
other a size c rest (inl le) = inr le
other a size c rest (inr le) = inl le

pub member_in : (before : List Block) (b : Block) → In b before → is_member before b ≡ true
member_in [] b i = absurd i
member_in (x ∷ before) b (inl same) = or_left (x.id == b.id) (is_member before b) (eq-eqb x.id b.id (ap (λ (y : Block). y.id) (sym same)))
member_in (x ∷ before) b (inr i) = or_right (x.id == b.id) (is_member before b) (member_in before b i)

pub apart_push : (t : Tracker) (words : ℕ) (tasks : List Task) (before : List Block) (b : Block) → AreLaidOut words (blocks_of t) tasks → IsApart t before → In b (blocks_of t) → is_member before b ≡ false → IsApart t (before ++ b ∷ [])
apart_push t words tasks before b laid a i out = record {
  inside = each_push (λ x. In x (blocks_of t)) before b a.inside i;
  apart = pairs_push (λ (x y : Block). AreApart x.start x.size y.start y.size) before b a.apart
      (in_each (λ (x : Block). AreApart x.start x.size b.start b.size) before (λ x j.
      elim (pairs_in (λ (x y : Block). AreApart x.start x.size y.start y.size) (blocks_of t) x b laid.blocks_apart (each_in (λ y. In y (blocks_of t)) before x a.inside j) i) [
        | inl same ↦ absurd (elim_false (sym out ∙ member_in before b (subst (λ y. In y before) same j)))
        | inr one ↦ elim one [ inl r ↦ r | inr r ↦ other b.start b.size x.start x.size r ]
      ]));
}

pub source_of : (t : Tracker) (words : ℕ) (stacks : Bool) (tasks : List Task) (before : List Block) → AreLaidOut words (blocks_of t) tasks → IsApart t before → IsSource words (stacks_of stacks tasks) before
source_of t words true tasks before laid a = record {
  blocks_in = in_each (λ (b : Block). IsInMemory words b.start b.size × IsOfWords b.start b.size) before (λ b i. each_in (λ (c : Block). IsInMemory words c.start c.size × IsOfWords c.start c.size) (blocks_of t) b laid.blocks_in (each_in (λ c. In c (blocks_of t)) before b a.inside i));
  blocks_apart = a.apart;
  stacks_in = laid.stacks_in;
  stacks_apart = laid.stacks_apart;
  apart = in_each (λ (u : Task). Each (λ (b : Block). AreApart u.stack 4096 b.start b.size) before) tasks (λ u j.
      in_each (λ (b : Block). AreApart u.stack 4096 b.start b.size) before (λ b i.
      each_in (λ (c : Block). AreApart u.stack 4096 c.start c.size) (blocks_of t) b (each_in (λ (v : Task). Each (λ (c : Block). AreApart v.stack 4096 c.start c.size) (blocks_of t)) tasks u laid.apart j) (each_in (λ c. In c (blocks_of t)) before b a.inside i)));
}
source_of t words false tasks before laid a = record {
  blocks_in = in_each (λ (b : Block). IsInMemory words b.start b.size × IsOfWords b.start b.size) before (λ b i. each_in (λ (c : Block). IsInMemory words c.start c.size × IsOfWords c.start c.size) (blocks_of t) b laid.blocks_in (each_in (λ c. In c (blocks_of t)) before b a.inside i));
  blocks_apart = a.apart;
  stacks_in = tt;
  stacks_apart = tt;
  apart = tt;
}

take_at : {A : Type 0} (xs : List A) (i : ℕ) (x : A) → i < length xs → x ≡ get_or xs i x → take (i + 1) xs ≡ take i xs ++ x ∷ []
take_at [] i x lt e = absurd (omega (arith, lt))
take_at (y ∷ xs) zero x lt e = ap (λ z. z ∷ []) (sym e)
take_at (y ∷ xs) (suc i) x lt e =
    ap (λ n. take n (y ∷ xs)) (let f : suc i + 1 ≡ suc (i + 1) = omega arith in f) ∙ ap (λ zs. y ∷ zs) (take_at xs i x (omega (arith, lt)) e)

blocks_push : (t : Tracker) (ids : List RecId) (id : RecId) (b : Block) → block_by t id ≡ Some b → blocks_by t (ids ++ id ∷ []) ≡ blocks_by t ids ++ b ∷ []
blocks_push t [] id b e = ap (λ o. cons_option o []) e
blocks_push t (x ∷ ids) id b e = go (blocks_push t ids id b e) (block_by t x)
  where
    go : blocks_by t (ids ++ id ∷ []) ≡ blocks_by t ids ++ b ∷ [] → (o : Option Block) → cons_option o (blocks_by t (ids ++ id ∷ [])) ≡ cons_option o (blocks_by t ids) ++ b ∷ []
    go rest None = rest
    go rest (Some c) = ap (λ bs. c ∷ bs) rest

-- so many of a list were checked
pub record IsChecked (memory : List ℕ) (t : Tracker) (tasks : List Task) (stacks : Bool) (list : List RecId) (i : ℕ) : Type 0 where
  pub so_far : first_unfit (standing_of t tasks stacks memory) 1 [] (blocks_by t list) ≡ first_unfit (standing_of t tasks stacks memory) (i + 1) (blocks_by t (take i list)) (blocks_by t (drop i list))
  pub apart : IsApart t (blocks_by t (take i list))

pub check_begins : (memory : List ℕ) (t : Tracker) (tasks : List Task) (stacks : Bool) (list : List RecId) → IsChecked memory t tasks stacks list 0
check_begins memory t tasks stacks list = record { so_far = refl; apart = record { inside = tt; apart = tt } }

same_members : (t : Tracker) (ids : List RecId) (b : Block) (n : ℕ) → b.id ≡ n → ((id : RecId) → In id ids → is_live id t ≡ true) → list_any (λ (x : RecId). x.generation == n) ids ≡ is_member (blocks_by t ids) b
same_members t [] b n e live = refl
same_members t (id ∷ ids) b n e live =
    let here = live_block t id (live id (inl refl)) in
    ap (λ k. k == n || list_any (λ (x : RecId). x.generation == n) ids) (sym here.number) ∙ ap (λ k. (here.block).id == k || list_any (λ (x : RecId). x.generation == n) ids) (sym e)
    ∙ ap (λ q. (here.block).id == b.id || q) (same_members t ids b n e (λ x i. live x (inr i))) ∙ sym (ap (λ o. is_member (cons_option o (blocks_by t ids)) b) here.is)

take_in : {A : Type 0} (xs : List A) (i : ℕ) (x : A) → In x (take i xs) → In x xs
take_in [] zero x j = j
take_in [] (suc i) x j = j
take_in (y ∷ xs) zero x j = absurd j
take_in (y ∷ xs) (suc i) x (inl same) = inl same
take_in (y ∷ xs) (suc i) x (inr j) = inr (take_in xs i x j)

-- what is tested at a place
pub check_is : (memory : List ℕ) (t : Tracker) (tasks : List Task) (stacks : Bool) (list : List RecId) (i : ℕ) (id : RecId) (b : Block) (words : ℕ) → words ≡ length memory → AreLaidOut words (blocks_of t) tasks
    → ((x : RecId) → In x list → is_live x t ≡ true) → block_by t id ≡ Some b → b.id ≡ id.generation → IsChecked memory t tasks stacks list i
    → (not (list_any (λ (x : RecId). x.generation == id.generation) (take i list)) && is_enough memory (blocks_of t) (sources (stacks_of stacks tasks) (blocks_by t (take i list))) b)
    ≡ may_follow (standing_of t tasks stacks memory) (blocks_by t (take i list)) b
check_is memory t tasks stacks list i id b words whole laid live is number c =
    let before : List Block = blocks_by t (take i list) in
    ap (λ q. not q && is_enough memory (blocks_of t) (sources (stacks_of stacks tasks) before) b) (same_members t (take i list) b id.generation number (λ x j. live x (take_in list i x j)))
    ∙ ap (λ q. not (is_member before b) && q) (sym (enough_same memory (standing_of t tasks stacks memory) before b refl (subst (λ n. IsSource n (stacks_of stacks tasks) before) whole (source_of t words stacks tasks before laid c.apart))))
    ∙ regroup (not (is_member before b)) (not (is_black b)) (is_supported (standing_of t tasks stacks memory) before b)
  where
    regroup : (x y z : Bool) → (x && (y && z)) ≡ ((x && y) && z)
    regroup true y z = refl
    regroup false y z = refl

fit_here : (s : Standing) (n : ℕ) (before rest : List Block) (b : Block) (q : Bool) → may_follow s before b ≡ q
    → first_unfit s n before (b ∷ rest) ≡ (if q then first_unfit s (n + 1) (before ++ b ∷ []) rest else Some n)
fit_here s n before rest b q e = ap (λ r. if r then first_unfit s (n + 1) (before ++ b ∷ []) rest else Some n) e

behind_here : (t : Tracker) (list : List RecId) (i : ℕ) (id : RecId) (b : Block) → i < length list → id ≡ get_or list i id → block_by t id ≡ Some b → blocks_by t (drop i list) ≡ b ∷ blocks_by t (drop (i + 1) list)
behind_here t list i id b lt at is = ap (blocks_by t) (drop_at list i id lt at) ∙ ap (λ o. cons_option o (blocks_by t (drop (i + 1) list))) is

-- it goes on after one that fits
pub check_goes_on : (memory : List ℕ) (t : Tracker) (tasks : List Task) (stacks : Bool) (list : List RecId) (i : ℕ) (id : RecId) (b : Block) (words : ℕ) → AreLaidOut words (blocks_of t) tasks
    → i < length list → id ≡ get_or list i id → block_by t id ≡ Some b → In b (blocks_of t) → IsChecked memory t tasks stacks list i
    → may_follow (standing_of t tasks stacks memory) (blocks_by t (take i list)) b ≡ true → IsChecked memory t tasks stacks list (i + 1)
check_goes_on memory t tasks stacks list i id b words laid lt at is live c may =
    let s : Standing = standing_of t tasks stacks memory in
    let longer : blocks_by t (take (i + 1) list) ≡ blocks_by t (take i list) ++ b ∷ [] = ap (blocks_by t) (take_at list i id lt at) ∙ blocks_push t (take i list) id b is in
    let out : is_member (blocks_by t (take i list)) b ≡ false = not_true (is_member (blocks_by t (take i list)) b) (and_parts (not (is_member (blocks_by t (take i list)) b)) (not (is_black b)) (and_parts (not (is_member (blocks_by t (take i list)) b) && not (is_black b)) (is_supported s (blocks_by t (take i list)) b) may).0).0 in
    record {
      so_far = c.so_far ∙ ap (first_unfit s (i + 1) (blocks_by t (take i list))) (behind_here t list i id b lt at is)
          ∙ fit_here s (i + 1) (blocks_by t (take i list)) (blocks_by t (drop (i + 1) list)) b true may ∙ ap (λ bs. first_unfit s (i + 1 + 1) bs (blocks_by t (drop (i + 1) list))) (sym longer);
      apart = subst (IsApart t) (sym longer) (apart_push t words tasks (blocks_by t (take i list)) b laid c.apart live out);
    }

-- and ends at one that doesn't
pub check_stops : (memory : List ℕ) (t : Tracker) (tasks : List Task) (stacks : Bool) (list : List RecId) (i : ℕ) (id : RecId) (b : Block)
    → i < length list → id ≡ get_or list i id → block_by t id ≡ Some b → IsChecked memory t tasks stacks list i
    → may_follow (standing_of t tasks stacks memory) (blocks_by t (take i list)) b ≡ false → Some (i + 1) ≡ first_unfit (standing_of t tasks stacks memory) 1 [] (blocks_by t list)
check_stops memory t tasks stacks list i id b lt at is c may =
    let s : Standing = standing_of t tasks stacks memory in
    sym (c.so_far ∙ ap (first_unfit s (i + 1) (blocks_by t (take i list))) (behind_here t list i id b lt at is) ∙ fit_here s (i + 1) (blocks_by t (take i list)) (blocks_by t (drop (i + 1) list)) b false may)

-- or at the end
pub check_ends : (memory : List ℕ) (t : Tracker) (tasks : List Task) (stacks : Bool) (list : List RecId) (i : ℕ) → length list ≤ i → IsChecked memory t tasks stacks list i
    → None ≡ first_unfit (standing_of t tasks stacks memory) 1 [] (blocks_by t list)
check_ends memory t tasks stacks list i le c =
    sym (c.so_far ∙ ap (λ ids. first_unfit (standing_of t tasks stacks memory) (i + 1) (blocks_by t (take i list)) (blocks_by t ids)) (drop_over list i le))

get_same : {A : Type 0} (xs : List A) (i : ℕ) (x y : A) → i < length xs → get_or xs i x ≡ get_or xs i y
get_same [] i x y lt = absurd (omega (arith, lt))
get_same (z ∷ xs) zero x y lt = refl
get_same (z ∷ xs) (suc i) x y lt = get_same xs i x y (omega (arith, lt))

get_in : {A : Type 0} (xs : List A) (i : ℕ) (x : A) → i < length xs → In (get_or xs i x) xs
get_in [] i x lt = absurd (omega (arith, lt))
get_in (z ∷ xs) zero x lt = inl refl
get_in (z ∷ xs) (suc i) x lt = inr (get_in xs i x (omega (arith, lt)))

-- a test at a place
pub record IsTested (memory : List ℕ) (t : Tracker) (tasks : List Task) (stacks : Bool) (list : List RecId) (i : ℕ) (may : Bool) : Type 0 where
  pub stops : may ≡ false → Some (i + 1) ≡ first_unfit (standing_of t tasks stacks memory) 1 [] (blocks_by t list)
  pub goes_on : may ≡ true → IsChecked memory t tasks stacks list (i + 1)

pub tested : (memory now : List ℕ) (t : Tracker) (tasks : List Task) (stacks : Bool) (list : List RecId) (i : ℕ) (d : RecId) (words : ℕ) (before : List RecId) → words ≡ length memory → AreLaidOut words (blocks_of t) tasks
    → ((x : RecId) → In x list → is_live x t ≡ true) → i < length list → now ≡ memory → before ≡ take i list → IsChecked memory t tasks stacks list i → (may : Bool)
    → ((b : Block) → block_by t (get_or list i d) ≡ Some b
    → may ≡ (not (list_any (λ (x : RecId). x.generation == (get_or list i d).generation) before) && is_enough now (blocks_of t) (sources (stacks_of stacks tasks) (blocks_by t before)) b))
    → IsTested memory t tasks stacks list i may
tested memory now t tasks stacks list i d words before whole laid live lt same prefix c may is =
    let id : RecId = get_or list i d in
    let here = live_block t id (live id (get_in list i d lt)) in
    let at : id ≡ get_or list i id = get_same list i d id lt in
    let shown : may ≡ may_follow (standing_of t tasks stacks memory) (blocks_by t (take i list)) here.block =
    is here.block here.is
    ∙ ap (λ xs. not (list_any (λ (x : RecId). x.generation == id.generation) xs) && is_enough now (blocks_of t) (sources (stacks_of stacks tasks) (blocks_by t xs)) here.block) prefix
    ∙ ap (λ m. not (list_any (λ (x : RecId). x.generation == id.generation) (take i list)) && is_enough m (blocks_of t) (sources (stacks_of stacks tasks) (blocks_by t (take i list))) here.block) same
    ∙ check_is memory t tasks stacks list i id here.block words whole laid live here.is here.number c in
    record {
      stops = λ e. check_stops memory t tasks stacks list i id here.block lt at here.is c (sym shown ∙ e);
      goes_on = λ e. check_goes_on memory t tasks stacks list i id here.block words laid lt at here.is here.live c (sym shown ∙ e);
    }
