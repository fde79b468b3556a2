-- What one line makes, and what several make.
use Rattle.std.proofs.Common.{◌≡◌, ℕ, ◌≤◌, Bool, true, false, ◌||◌, List, [], ◌∷◌, ◌++◌, Option, Some, None, refl, sym, ◌∙◌, ap, subst, arith, append_assoc, append-nil}
use Rattle.std.specs.Prelude.{is_none}
use Rattle.km_base.specs.declared.acts.Act.{Act}
use Rattle.km_base.specs.declared.acts.Act.TheVariants as act
use Rattle.km_base.specs.declared.acts.Answer.{Answer}
use Rattle.km_base.specs.declared.acts.Answer.TheVariants.{At, Loaded}
use Rattle.km_model.specs.Past.{is_loaded}
use Rattle.km_laws.specs.Laws.{BlockLies, may_load}
use Rattle.km_model.proofs.Cases.{elim_false, none_some, some_same}
use Rattle.km_words.specs.Told.{Told, WordStep}
use Rattle.km_live_model.specs.declared.jobs.JobLine.{JobLine}
use Rattle.km_live_model.specs.declared.jobs.JobLine.TheVariants.{Kmalloc, Kzalloc, Kfree, NotLeak, Ignore, NoScan, ScanArea}
use Rattle.km_rounds.specs.Journals.{Journal, with_loaded, room_for}
use Rattle.km_live_model.specs.Courses.{Mutator, Makes, Course, act_in, entry_of, leaves_out, made_at, registers_after, steps_in}
use Rattle.km_workers.specs.Workers.{Acting, Acted, Asked, Followed, IsCourse, IsFull, IsZeroable, LineMade, Stepped, loads_of, standing, with_steps}
use Rattle.km_workers.proofs.Blocks.{steps_more}

-- the act of a line can't load, and is no halt
abbrev IsPlain : Option Act → Type 0
IsPlain None = Unit {0}
IsPlain (Some what) = (may_load what ≡ false) × ((limit : ℕ) → room_for limit what ≡ limit)

plain_act : (registers : List ℕ) (line : JobLine) → IsPlain (act_in registers line)
plain_act registers (Kmalloc size _) = (refl, λ l. refl)
plain_act registers (Kzalloc size _) = (refl, λ l. refl)
plain_act registers (Kfree a) = (refl, λ l. refl)
plain_act registers (NotLeak a) = (refl, λ l. refl)
plain_act registers (Ignore a) = (refl, λ l. refl)
plain_act registers (NoScan a) = (refl, λ l. refl)
plain_act registers (ScanArea a size) = (refl, λ l. refl)
plain_act registers _ = tt

unloaded : (answer : Answer) → is_loaded answer ≡ false → with_loaded answer [] ≡ []
unloaded (Loaded a v) e = absurd (elim_false (sym e))
unloaded _ e = refl

at_is : (answer : Answer) (a : ℕ) → made_at (Some answer) ≡ Some a → answer ≡ At a
at_is (At b) a e = ap At (some_same b a e)
at_is _ a e = absurd (none_some a e)

none_zeroable : (words : ℕ) (line : JobLine) → IsZeroable words line None
none_zeroable words (Kzalloc size _) = λ a e. absurd (none_some a e)
none_zeroable words _ = tt

none_entries : (by : ℕ) (o : Option Act) → entry_of by o None ≡ []
none_entries by None = refl
none_entries by (Some what) = refl

pub limit_below : (limit : ℕ) (what : Act) → limit ≤ room_for limit what
limit_below limit act.Halt = omega arith
limit_below limit _ = omega arith

or_false : (q : Bool) → (q || false) ≡ q
or_false true = refl
or_false false = refl

or_true : (q : Bool) → (q || true) ≡ true
or_true true = refl
or_true false = refl

-- an act of a line was answered
pub asked_by : (a b : Acting) (t u : Told) (registers : List ℕ) (full : Bool) (line : JobLine) (what : Act) (result : Option Answer) → act_in registers line ≡ Some what
    → IsFull a (standing registers full) → a.words ≡ t.size → Acted a b what result → Stepped t u (loads_of result)
    → Asked a b t u registers full (full || is_none result) line result
asked_by a b t u registers full line what None is knows words acted stepped = record {
  stepped = stepped;
  same = acted.same;
  more = acted.more;
  own = acted.made.0 ∙ (sym (append-nil a.own) ∙ ap (λ xs. a.own ++ xs) (sym (none_entries a.by (act_in registers line))));
  last = λ e. none_entries a.by (act_in registers line);
  full = ap (λ o. full || leaves_out o None) (sym is);
  knows = λ e. let low = limit_below a.limit what in let high = acted.made.1 in omega (arith, low, high);
  zeroable = none_zeroable t.size line;
}
asked_by a b t u registers full line what (Some answer) is knows words acted stepped =
    let plain = subst IsPlain is (plain_act registers line) in
    record {
      stepped = subst (λ xs. Stepped t u xs) (unloaded answer ((acted.made.2).plain plain.0)) stepped;
      same = acted.same;
      more = acted.more;
      own = acted.made.0 ∙ ap (λ o. a.own ++ entry_of a.by o (Some answer)) (sym is);
      last = λ e. absurd (let room = plain.1 a.limit in let low = knows e in let high = acted.made.1 in omega (arith, room, low, high));
      full = ap (λ o. full || leaves_out o (Some answer)) (sym is);
      knows = λ e. let low = knows (sym (or_false full) ∙ e) in let more = acted.more in omega (arith, low, more);
      zeroable = zero line is;
    }
  where
    zero : (l : JobLine) → act_in registers l ≡ Some what → IsZeroable t.size l (Some answer)
    zero (Kzalloc size _) e = λ at f. subst (λ n. BlockLies n size at) words ((acted.made.2).block size at (sym (some_same (act.Kmalloc size) what e)) (at_is answer at f))
    zero _ e = tt

-- a line without an act
pub asked_none : (a : Acting) (t : Told) (registers : List ℕ) (full : Bool) (line : JobLine) → act_in registers line ≡ None → IsFull a (standing registers full)
    → Asked a a t t registers full full line None
asked_none a t registers full line is knows = record {
  stepped = record { told = none_more t.steps; size = refl; place = refl };
  same = refl;
  more = omega arith;
  own = sym (append-nil a.own) ∙ ap (λ xs. a.own ++ xs) (sym (none_entries a.by (act_in registers line)));
  last = λ e. none_entries a.by (act_in registers line);
  full = sym (or_false full) ∙ ap (λ o. full || leaves_out o None) (sym is);
  knows = knows;
  zeroable = none_zeroable t.size line;
}
  where
    none_more : (o : Option (List WordStep)) → o ≡ with_steps o []
    none_more None = refl
    none_more (Some steps) = ap Some (sym (append-nil steps))

-- steps after steps
pub stepped_on : (t u v : Told) (xs ys : List WordStep) → Stepped t u xs → Stepped u v ys → Stepped t v (xs ++ ys)
stepped_on t u v xs ys f k = record {
  told = k.told ∙ (ap (λ o. with_steps o ys) f.told ∙ steps_more t.steps xs ys);
  size = k.size ∙ f.size;
  place = k.place ∙ f.place;
}

-- a line that was asked for its act and followed was made
pub line_made : (a b : Acting) (t u v : Told) (before after : List ℕ) (was full : Bool) (line : JobLine) (answer : Option Answer)
    → Asked a b t u before was full line answer → Followed u v before after line answer → LineMade a b t v (standing before was) (standing after full) line
line_made a b t u v before after was full line answer asked followed = record {
  steps = steps_in t.size before line followed.value answer;
  entries = entry_of a.by (act_in before line) answer;
  stepped = stepped_on t u v [] (steps_in t.size before line followed.value answer) asked.stepped
      (subst (λ n. Stepped u v (steps_in n before line followed.value answer)) asked.stepped.size followed.stepped);
  same = asked.same;
  own = asked.own;
  more = asked.more;
  makes = record {
    value = followed.value;
    answer = answer;
    made_steps = refl;
    made_entries = refl;
    registers = subst (λ n. after ≡ registers_after n before line followed.value answer) asked.stepped.size followed.registers;
    full = asked.full;
    last = asked.last;
  };
}

-- one more line
course_more : (words by : ℕ) (before : Mutator) (lines : List JobLine) (steps : List WordStep) (entries : Journal) (between : Mutator) (line : JobLine) (more : List WordStep) (made : Journal) (after : Mutator)
    → Course words by before lines steps entries between → Makes words by between line more made after → Course words by before (lines ++ line ∷ []) (steps ++ more) (entries ++ made) after
course_more words by before [] steps entries between line more made after c m =
    (more, [], made, [], after, subst (λ x. Makes words by x line more made after) c.2 m, (refl, refl, refl), ap (λ xs. xs ++ more) c.0 ∙ sym (append-nil more), ap (λ xs. xs ++ made) c.1 ∙ sym (append-nil made))
course_more words by before (l ∷ lines) steps entries between line more made after c m = (
  c.0,
  c.1 ++ more,
  c.2,
  c.3 ++ made,
  c.4,
  c.5,
  course_more words by c.4 lines c.1 c.3 between line more made after c.6 m,
  ap (λ xs. xs ++ more) c.7 ∙ append_assoc c.0 c.1 more,
  ap (λ xs. xs ++ made) c.8 ∙ append_assoc c.2 c.3 made,
)

-- no lines yet
pub course_none : (a : Acting) (t : Told) (m : Mutator) → IsCourse a a t t m m []
course_none a t m = record {
  steps = [];
  entries = [];
  stepped = record { told = none_more t.steps; size = refl; place = refl };
  same = refl;
  own = sym (append-nil a.own);
  more = omega arith;
  course = (refl, refl, refl);
}
  where
    none_more : (o : Option (List WordStep)) → o ≡ with_steps o []
    none_more None = refl
    none_more (Some steps) = ap Some (sym (append-nil steps))

-- a course with a line more
pub courses_more : (a b c : Acting) (t u v : Told) (before between after : Mutator) (lines : List JobLine) (line : JobLine) → IsCourse a b t u before between lines
    → LineMade b c u v between after line → IsCourse a c t v before after (lines ++ line ∷ [])
courses_more a b c t u v before between after lines line f k = record {
  steps = f.steps ++ k.steps;
  entries = f.entries ++ k.entries;
  stepped = stepped_on t u v f.steps k.steps f.stepped k.stepped;
  same = k.same ∙ ap (λ (x : Acting). record x { own = c.own; most = c.most }) f.same;
  own = k.own ∙ (ap (λ xs. xs ++ k.entries) f.own ∙ append_assoc a.own f.entries k.entries);
  more = (let x = f.more in let y = k.more in omega (arith, x, y));
  course = course_more t.size a.by before lines f.steps f.entries between line k.steps k.entries after f.course
      (subst (λ n. Makes n a.by between line k.steps k.entries after) f.stepped.size
      (subst (λ n. Makes u.size n between line k.steps k.entries after) (ap (λ (x : Acting). x.by) f.same) k.makes));
}
