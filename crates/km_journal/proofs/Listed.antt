-- The blocks that are still to be listed.
use Rattle.std.proofs.Common.{◌≡◌, ℕ, Bool, true, false, List, [], ◌∷◌, ◌++◌, map, filter, cond, Option, Some, None, is_none, option_map, if◌then◌else◌, refl, ap, sym, subst, ◌∙◌, append_assoc}
use Rattle.std.specs.Prelude.{find}
use Rattle.std.proofs.lemmas.List.{append-nil}
use Rattle.std.specs.List.{list_any}
use Rattle.km_base.specs.declared.acts.Act.{Act}
use Rattle.km_base.specs.declared.acts.Act.TheVariants as acts
use Rattle.km_base.specs.declared.acts.Answer.{Answer}
use Rattle.km_base.specs.declared.acts.Answer.TheVariants as answer
use Rattle.km_model.specs.Blocks.{Block}
use Rattle.km_model.specs.Past.{Past}
use Rattle.km_record.specs.declared.kinds.RecId.{RecId}
use Rattle.km_state.specs.State.{blocks_in, is_listed_now}
use Rattle.km_track.specs.Tracker.{AreRising, Live, Tracker, id_of, is_id, is_live, live_with}
use Rattle.km_track.proofs.Lives.{finds_it}
use Rattle.km_verdict.specs.Listing.{behind, listed_in}
use Rattle.km_verdict.proofs.Listings.{behind_its}
use Rattle.km_entries.specs.File.{are_none, listed_after}
use Rattle.km_journal.specs.Judging.{TellsRead}
use Rattle.km_journal.specs.Replays.{HasListing, Owes, starts_in}

-- the first listed one of some live blocks
record Found (ls : List Live) (id : RecId) : Type 0 where
  pub passed : List Live
  pub it : Live
  pub more : List Live
  pub there : ls ≡ passed ++ it ∷ more
  pub its : id ≡ id_of it
  pub starts : starts_in ls ≡ it.tracked.block.start ∷ starts_in more

finds : (ls : List Live) (id : RecId) → Some id ≡ listed_in ls → Found ls id
finds [] id e = absurd (let z : ⊥ = cc in z)
finds (l ∷ ls) id e =
    let rest = filter is_listed_now (map (λ (x : Live). x.tracked) ls) in
    elim (is_listed_now l.tracked) as (λ b. Some id ≡ option_map id_of (cond b (Some l) (find (λ (x : Live). is_listed_now x.tracked) ls))
    → starts_in (l ∷ ls) ≡ map (λ (x : Block). x.start) (blocks_in (cond b (l.tracked ∷ rest) rest)) → Found (l ∷ ls) id) [
      | true ↦ λ f t. record { passed = []; it = l; more = ls; there = refl; its = cc; starts = t }
      | false ↦ λ f t.
          let r = finds ls id f in
          record { passed = l ∷ r.passed; it = r.it; more = r.more; there = ap (λ xs. l ∷ xs) r.there; its = r.its; starts = t ∙ r.starts }
    ] e refl

-- nothing is owed exactly where no block is next
none_next : (ls : List Live) → is_none (listed_in ls) ≡ are_none (starts_in ls)
none_next [] = refl
none_next (l ∷ ls) =
    elim (is_listed_now l.tracked) as (λ b. is_none (option_map id_of (if b then Some l else find (λ (x : Live). is_listed_now x.tracked) ls))
    ≡ are_none (map (λ (x : Block). x.start) (blocks_in (if b then l.tracked ∷ filter is_listed_now (map (λ (x : Live). x.tracked) ls) else filter is_listed_now (map (λ (x : Live). x.tracked) ls))))) [
      | true ↦ refl
      | false ↦ none_next ls
    ]

pub none_owed : (t : Tracker) (next : Option RecId) (owed : List ℕ) → Owes t next owed → is_none next ≡ are_none owed
none_owed t next owed o = ap is_none o.at ∙ none_next o.rest ∙ ap are_none (sym o.starts)

-- the block whose line is due
pub record Due (t : Tracker) (owed : List ℕ) (id : RecId) : Type 0 where
  pub it : Live
  pub more : List Live
  pub found : live_with id t ≡ Some it
  pub starts : owed ≡ it.tracked.block.start ∷ starts_in more
  pub after : (next : Option RecId) → next ≡ listed_in (behind id t.live) → Owes t next (starts_in more)

pub due : (t : Tracker) (next : Option RecId) (owed : List ℕ) (id : RecId) → Owes t next owed → AreRising 0 t.live t.registered → next ≡ Some id → Due t owed id
due t next owed id o rising e =
    let f = finds o.rest id (sym e ∙ o.at) in
    let was : t.live ≡ o.prefix ++ f.passed ++ f.it ∷ f.more = o.was ∙ ap (λ ls. o.prefix ++ ls) f.there ∙ sym (append_assoc o.prefix f.passed (f.it ∷ f.more)) in
    let rises = subst (λ ls. AreRising 0 ls t.registered) was rising in
    let on : behind id t.live ≡ f.more = subst (λ (i : RecId). behind i t.live ≡ f.more) (sym f.its) (subst (λ ls. behind (id_of f.it) ls ≡ f.more) (sym was) (behind_its 0 t.registered (o.prefix ++ f.passed) f.more f.it rises)) in
    record {
      it = f.it;
      more = f.more;
      found = subst (λ (i : RecId). find (is_id i) t.live ≡ Some f.it) (sym f.its) (subst (λ ls. find (is_id (id_of f.it)) ls ≡ Some f.it) (sym was) (finds_it 0 t.registered (o.prefix ++ f.passed) f.more f.it rises));
      starts = o.starts ∙ f.starts;
      after = λ after is. record {
        prefix = (o.prefix ++ f.passed) ++ f.it ∷ [];
        rest = f.more;
        was = was ∙ sym (append_assoc (o.prefix ++ f.passed) (f.it ∷ []) f.more);
        at = is ∙ ap listed_in on;
        starts = refl;
      };
    }

-- what was found is there
pub found_live : {X : Type 0} (test : X → Bool) (xs : List X) (x : X) → find test xs ≡ Some x → list_any test xs ≡ true
found_live test [] x e = absurd (cc)
found_live test (y ∷ ys) x e = by_test (test y) refl e (found_live test ys x)
  where
    by_test : (b : Bool) → test y ≡ b → (if b then Some y else find test ys) ≡ Some x → (find test ys ≡ Some x → list_any test ys ≡ true) → list_any test (y ∷ ys) ≡ true
    by_test true t k on = rw t refl
    by_test false t k on = rw t (on k)

-- after an act that doesn't read no block is listed
pub reads_alone : (past : Past) (act : Act) (given : Answer) → ¬ (act ≡ acts.Read) → listed_after past act given ≡ []
reads_alone past (acts.Section _ _) given n = refl
reads_alone past (acts.TaskStart _) given n = refl
reads_alone past (acts.TaskExit _) given n = refl
reads_alone past (acts.SetReg _ _ _) given n = refl
reads_alone past (acts.Load _ _ _) given n = refl
reads_alone past (acts.Store _ _) given n = refl
reads_alone past (acts.Kmalloc _) given n = refl
reads_alone past (acts.Kfree _) given n = refl
reads_alone past (acts.Pages _) given n = refl
reads_alone past (acts.FreePages _) given n = refl
reads_alone past (acts.VmTake _) given n = refl
reads_alone past (acts.VmGive _) given n = refl
reads_alone past (acts.BootMem _) given n = refl
reads_alone past (acts.FreePart _ _) given n = refl
reads_alone past (acts.NotLeak _) given n = refl
reads_alone past (acts.Ignore _) given n = refl
reads_alone past (acts.NoScan _) given n = refl
reads_alone past (acts.ScanArea _ _) given n = refl
reads_alone past (acts.TransientLeak _) given n = refl
reads_alone past (acts.File _) given n = refl
reads_alone past acts.Read given n = absurd (n refl)
reads_alone past (acts.Tick _) given n = refl
reads_alone past acts.AutoBegin given n = refl
reads_alone past acts.Step given n = refl
reads_alone past acts.Halt given n = refl

-- nor after a read that was refused
undone : (past : Past) (given : Answer) → ¬ (given ≡ answer.Done) → listed_after past acts.Read given ≡ []
undone past answer.Done n = absurd (n refl)
undone past (answer.At _) n = refl
undone past (answer.Loaded _ _) n = refl
undone past (answer.Ended _ _) n = refl
undone past (answer.Stopped _) n = refl
undone past answer.Skipped n = refl
undone past (answer.Dumped _) n = refl
undone past (answer.Refused _) n = refl

owes_nothing : (t : Tracker) (owed : List ℕ) → owed ≡ [] → Owes t None owed
owes_nothing t owed e = record { prefix = t.live; rest = []; was = sym (append-nil t.live); at = refl; starts = e }

-- what is owed after an event that is no read, or wasn't done
pub owes_none : (t : Tracker) (past : Past) (act : Act) (given : Answer) (is_read : Bool) → (given ≡ answer.Done → is_read ≡ false) → TellsRead act is_read → Owes t None (listed_after past act given)
owes_none t past act given false n reads = owes_nothing t (listed_after past act given) (reads past given)
owes_none t past act given true n reads =
    owes_nothing t (listed_after past act given) (ap (λ (a : Act). listed_after past a given) reads ∙ undone past given (λ done. let e : true ≡ false = n done in let z : ⊥ = cc in z))

-- what is owed after a read
pub owes_all : (t : Tracker) (past : Past) (act : Act) (next : Option RecId) → next ≡ listed_in t.live → act ≡ acts.Read → HasListing past act answer.Done t → Owes t next (listed_after past act answer.Done)
owes_all t past act next is reads listing = record {
  prefix = [];
  rest = t.live;
  was = refl;
  at = is;
  starts = ap (λ (a : Act). listed_after past a answer.Done) reads ∙ ap (map (λ (x : Block). x.start)) (listing reads refl);
}
