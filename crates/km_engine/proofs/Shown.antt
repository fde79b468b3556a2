-- What the lines of a run show: the texts of its commands, and that the detector was right at each moment.
use Rattle.std.proofs.Common.{◌≡◌, ℕ, ◌+◌, ◌-◌, List, [], ◌∷◌, ◌++◌, length, Ok, Err, refl, ap, sym, subst, ◌∙◌, arith, append_assoc}
use Rattle.km_base.specs.declared.acts.Act.TheVariants as act
use Rattle.km_base.specs.declared.acts.Answer.{Answer}
use Rattle.km_base.specs.declared.acts.Answer.TheVariants.{Done, At}
use Rattle.km_base.specs.declared.acts.Refusal.{Refusal}
use Rattle.km_base.specs.declared.lines.Command.{Command}
use Rattle.km_base.specs.declared.lines.Command.TheVariants.{Read}
use Rattle.km_base.specs.declared.lines.Line.{Line}
use Rattle.km_base.specs.declared.lines.Line.TheVariants as line
use Rattle.km_base.specs.declared.status.Status.TheVariants as status
use Rattle.km_model.specs.History.{History}
use Rattle.km_model.specs.Expansion.{Makes, acts_behind, first_acts, world_after}
use Rattle.km_model.specs.Follows.{Run, FollowsMemory, all_happen, happens, told_answer}
use Rattle.km_model.specs.Grammar.{rules, line_of}
use Rattle.km_model.specs.Memory.{memory_after}
use Rattle.km_model.specs.Output.{Script, Fresh, Begun, LeadsLine, LineThen, Prints, answer_text, events_text, is_fresh, keyword, line_text, listing_text, print_text, status_from, status_then}
use Rattle.km_model.specs.Text.{refusal_text}
use Rattle.km_model.proofs.FollowLaws.{makes_keeps}
use Rattle.km_model.proofs.OutputLaws.{prints_once}
use Rattle.km_model.proofs.VerdictLaws.{listed_are_live, new_at_most_once}
use Rattle.km_converse.proofs.ToldLaw.{forgotten_are_listed, forgotten_are_new_once}
use Rattle.km_laws.proofs.NotHeld.{listed_are_not_held}
use Rattle.km_reader.specs.Lines.{IsPrefix}
use Rattle.km_engine.specs.Headline.{Reaches, Shows}
use Rattle.km_engine.proofs.Histories.{followed, prints_sound}
use Rattle.km_engine.proofs.Running.{prints_one, status_on}

-- the lines after some that aren't refused go on where those led to, and their text stands after that of those
prints_on : (before rest : List (List ℕ)) (m : Script) (n : ℕ) (s end : Script) (text out : List ℕ)
    → status_from rules status.Ok (is_fresh m) n before ≡ status.Ok → Prints m n before s text → Prints m n (before ++ rest) end out
    → (k : ℕ) × (more : List ℕ) × Prints s k rest end more × (out ≡ text ++ more)
prints_on [] rest m n s end text out good p q = (n, out, subst (λ g. Prints g n rest end out) (sym p.0) q, ap (λ t. t ++ out) (sym p.1))
prints_on (l ∷ ls) rest m n s end text out good p q =
    elim (line_of (is_fresh m) l) as (λ r. line_of (is_fresh m) l ≡ r → status_then (is_fresh m) n r (λ first. status_from rules status.Ok first (n + 1) ls) ≡ status.Ok → LineThen r m n (λ between e o. Prints between (n + 1) ls e o) s text → LineThen r m n (λ between e o. Prints between (n + 1) (ls ++ rest) e o) end out → (k : ℕ) × (more : List ℕ) × Prints s k rest end more × (out ≡ text ++ more)) [
      | Err e ↦ λ read good c d. absurd (let z : ⊥ = cc in z)
      | Ok x ↦ λ read good c d.
          let same = prints_once (l ∷ []) m n c.0 d.0 c.1 d.1 (prints_one m c.0 n l x c.1 read c.3) (prints_one m d.0 n l x d.1 read d.3) in
          let good' = sym (status_on m n x c.0 c.1 (λ first. status_from rules status.Ok first (n + 1) ls) c.3) ∙ good in
          let on = prints_on ls rest c.0 (n + 1) s end c.2 d.2 good' c.4 (subst (λ g. Prints g (n + 1) (ls ++ rest) end d.2) (sym same.0) d.4) in
          (on.0, on.1, on.2, d.5 ∙ ap (λ t. t ++ d.2) (sym same.1) ∙ ap (λ t. c.1 ++ t) on.3 ∙ sym (append_assoc c.1 c.2 on.1) ∙ ap (λ t. t ++ on.1) (sym c.5))
    ] refl good p q

-- a run has come from a history
abbrev HasGrown : History → Run → Type 0
HasGrown h run = (later : History) × (run.history ≡ later ++ h)

abbrev HasGrownTo : History → Script → Type 0
HasGrownTo h Fresh = ⊥
HasGrownTo h (Begun run) = HasGrown h run

happens_grow : (h : History) (run : Run) (a : _) → HasGrown h run → HasGrown h (happens run a)
happens_grow h run a g = (record { act = a; answer = told_answer run a } ∷ g.0, ap (λ x. record { act = a; answer = told_answer run a } ∷ x) g.1)

makes_grow : (h : History) (run : Run) (c : Command) (x : Run) → Makes run c x → HasGrown h run → HasGrown h x
makes_grow h run c x made g = makes_keeps (HasGrown h) (happens_grow h) run c x made g

line_grows : (h : History) (m : Script) (l : Line) (next : Script) (text : List ℕ) → LeadsLine m l next text → HasGrownTo h m → HasGrownTo h next
line_grows h m line.Blank next text p g = subst (HasGrownTo h) (sym p.0) g
line_grows h Fresh (line.Command c) next text p g = absurd g
line_grows h (Begun run) (line.Command c) next text p g = subst (HasGrownTo h) (sym p.2) (makes_grow h run c p.0 p.1 g)

prints_grow : (h : History) (ls : List (List ℕ)) (m : Script) (n : ℕ) (end : Script) (out : List ℕ) → Prints m n ls end out → HasGrownTo h m → HasGrownTo h end
prints_grow h [] m n end out p g = subst (HasGrownTo h) (sym p.0) g
prints_grow h (l ∷ ls) m n end out p g =
    elim (line_of (is_fresh m) l) as (λ r. LineThen r m n (λ between e o. Prints between (n + 1) ls e o) end out → HasGrownTo h end) [
      | Err e ↦ λ c. subst (HasGrownTo h) (sym c.0) g
      | Ok x ↦ λ c. prints_grow h ls c.0 (n + 1) end c.2 c.4 (line_grows h m x c.0 c.1 c.3 g)
    ] p

module _ (lines : List (List ℕ)) (last : Run) (out : List ℕ) (prints : Prints Fresh 1 lines (Begun last) out) where
  -- a command led on from the run before it
  texts : (run : Run) (c : Command) (text : List ℕ) → Reaches lines run c text
      → (run' : Run) × Makes run c run' × HasGrown run'.history last × IsPrefix (text ++ line_text run c run') out
  texts run c text r =
      let on = prints_on r.before (r.bytes ∷ r.after) Fresh 1 (Begun run) (Begun last) text out r.unrefused r.prints (subst (λ ls. Prints Fresh 1 ls (Begun last) out) r.parts prints) in
      let led = subst (λ x. LineThen x (Begun run) on.0 (λ between e o. Prints between (on.0 + 1) r.after e o) (Begun last) on.1) r.reads on.2 in
      let made = led.3 in (
        made.0,
        made.1,
        prints_grow (made.0).history r.after led.0 (on.0 + 1) (Begun last) led.2 led.4 (subst (HasGrownTo (made.0).history) (sym made.2) ([], refl)),
        (led.2, on.3 ∙ ap (λ t. text ++ t) (led.5 ∙ ap (λ t. t ++ led.2) made.3) ∙ sym (append_assoc text (line_text run c made.0) led.2)),
      )

  -- a read does nothing else
  read_makes : (run run' : Run) → Makes run Read run' → told_answer run act.Read ≡ Done → run' ≡ happens run act.Read
  read_makes run run' made done =
      let read = happens run act.Read in
      sym made ∙ ap (λ (a : Answer). all_happen read (elim a as (λ _. List _) [ At x ↦ acts_behind (world_after read.history) Read x | _ ↦ [] ])) done

  read_text : (run : Run) → told_answer run act.Read ≡ Done → line_text run Read (happens run act.Read) ≡ listing_text run.memory run.history
  read_text run done =
      let read = happens run act.Read in
      let one : length read.history - length run.history ≡ 1 = omega arith in
      ap (λ n. events_text run.memory [] n read.history) one ∙ ap (answer_text run.memory [] run.history act.Read) done

  reads : (run : Run) (text : List ℕ) → Reaches lines run Read text → told_answer run act.Read ≡ Done
      → IsPrefix (text ++ listing_text (memory_after run.words run.history) run.history) out
  reads run text r done =
      let t = texts run Read text r in
      let own = (prints_sound r.before Fresh 1 (Begun run) text r.prints tt).1 in
      let shown = ap (λ x. line_text run Read x) (read_makes run t.0 t.1 done) ∙ read_text run done ∙ ap (λ m. listing_text m run.history) own.memory in
      subst (λ x. IsPrefix (text ++ x) out) shown t.3

  refusals : (run : Run) (c : Command) (text : List ℕ) (r : Refusal) → Reaches lines run c text → first_acts (world_after run.history) c ≡ Err r → IsPrefix (text ++ refusal_text r) out
  refusals run c text r reaches refused =
      let t = texts run c text reaches in
      let run' = t.0 in
      subst (λ x. IsPrefix (text ++ x) out)
      (ap
      (λ a. elim a as (λ _. List ℕ) [
        | Err r ↦ refusal_text r
        | Ok _ ↦ print_text run.history c ++ events_text run.memory (keyword c) (length run'.history - length run.history) run'.history
      ])
      refused) t.3

  pub shows : Shows lines last out
  shows =
      let sound = prints_sound lines Fresh 1 (Begun last) out prints tt in
      record {
        own_words = sound;
        right = λ later before parts.
            let follows = followed last.words later before (subst (FollowsMemory last.words) parts sound.1.follows) in
            record {
              listed_are_not_held = listed_are_not_held last.words before sound.0 follows;
              forgotten_are_listed = forgotten_are_listed last.words before sound.0 follows;
              forgotten_are_new_once = forgotten_are_new_once last.words before later sound.0 follows;
              listed_are_live = listed_are_live before;
              new_at_most_once = new_at_most_once before;
            };
        texts = texts;
        reads = reads;
        refusals = refusals;
      }
