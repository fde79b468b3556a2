-- What a loop over the steps of a reader holds between two of them, and what each end says of the whole input.
use Rattle.std.proofs.Common.{◌≡◌, ℕ, ◌+◌, ◌-◌, ◌<◌, ◌≤◌, false, true, List, [], ◌∷◌, ◌++◌, length, take, drop, refl, ap, sym, subst, ◌∙◌, arith, append_assoc, length-append, length-drop}
use Rattle.std.proofs.lemmas.List.{append-nil, length-take}
use Rattle.std.specs.Io.KnownBytes.{Consumes, IsAtEnd}
use Rattle.km_model.specs.Output.{is_empty, lines_in, lines_within}
use Rattle.km_edge.specs.Streams.{SourceState, Rose}
use Rattle.km_edge.specs.Lines.{Whole, TooLong, Unknown, next_of}
use Rattle.km_reader.specs.declared.reader.Next.TheVariants as next
use Rattle.km_reader.specs.Lines.{whole_lines, IsLeft}
use Rattle.km_reader.specs.Lists.{Gave}
use Rattle.km_reader.specs.Reading.{Input, Is, IsReady, Step, Went, line_in, rest_in, unread}
use Rattle.km_reader.proofs.Sources.{at_end}
use Rattle.km_reader.proofs.Lists.{gave_none, gave_next, gave_line, gave_front, gave_end, rest_line, within_limit}
use Rattle.km_reader.proofs.Ends.{gave_beyond, gave_fault, gave_long}
use Rattle.km_reader.proofs.Steps.{no_length}

-- a reader that gave these lines, and no fault
pub record Between (s0 s : SourceState) (r : Input) (limit : ℕ) (lines : List (List ℕ)) : Type 0 where
  pub gave : Gave s0 s (rest_in r) r.taken limit lines
  pub ready : IsReady limit r
  pub kept : s.faults ≡ s0.faults

pub between_start : (s : SourceState) (r : Input) (limit : ℕ) → r ≡ unread limit → Between s s r limit []
between_start s r limit is =
    subst (λ (q : Input). Between s s q limit []) (sym is)
    (record { gave = gave_none s limit; ready = record { same = refl; short = omega arith; within = omega arith; room = omega arith }; kept = refl })

-- the limit is one
pub ready_on : (r r' : Input) (limit : ℕ) → r.limit ≡ limit → IsReady r.limit r' → IsReady limit r'
ready_on r r' limit same ready = subst (λ n. IsReady n r') same ready

-- more bytes were taken
pub gave_after : (s0 s s' : SourceState) (r r' : Input) (limit : ℕ) (lines : List (List ℕ)) → Between s0 s r limit lines → Step s s' r r' → Gave s0 s' r'.lines r'.taken limit lines
gave_after s0 s s' r r' limit lines b step =
    gave_next s0 s s' (rest_in r) r'.lines r.taken r'.taken limit lines b.gave
    (subst (λ n. Went s s' (rest_in r) r.taken n r'.lines r'.taken) b.ready.same step.went)
    (ready_on r r' limit b.ready.same step.ready).within

-- the size of a line
line_size : (lines : List ℕ) (skip : ℕ) → 1 ≤ skip → skip ≤ length lines → skip ≡ length (take (skip - 1) lines) + 1
line_size lines skip some short = omega (arith, some, short, length-take (skip - 1) lines)

-- a line was given
gave_given : (s0 s s' : SourceState) (r r' : Input) (limit : ℕ) (lines : List (List ℕ)) → Between s0 s r limit lines → Step s s' r r' → Is s' r' next.Line
    → Gave s0 s' (rest_in r') r'.taken limit (lines ++ line_in r' ∷ [])
gave_given s0 s s' r r' limit lines b step is =
    subst (λ n. Gave s0 s' (drop n r'.lines) r'.taken limit (lines ++ line_in r' ∷ [])) (sym (line_size r'.lines r'.skip is.1 is.2))
    (gave_line s0 s' r'.lines (line_in r') r'.taken limit lines (gave_after s0 s s' r r' limit lines b step) is.0)

pub between_line : (s0 s s' : SourceState) (r r' : Input) (limit : ℕ) (lines : List (List ℕ)) → Between s0 s r limit lines → Step s s' r r' → Is s' r' next.Line
    → s'.faults ≡ s.faults → Between s0 s' r' limit (lines ++ line_in r' ∷ [])
between_line s0 s s' r r' limit lines b step is kept = record {
  gave = gave_given s0 s s' r r' limit lines b step is;
  ready = ready_on r r' limit b.ready.same step.ready;
  kept = kept ∙ b.kept;
}

-- each line leaves less to read
pub shrinks : (s0 s s' : SourceState) (r r' : Input) (limit : ℕ) (lines : List (List ℕ)) → Between s0 s r limit lines → Step s s' r r' → Is s' r' next.Line
    → (limit + 1 - r'.taken) + length (rest_in r') < (limit + 1 - r.taken) + length (rest_in r)
shrinks s0 s s' r r' limit lines b step is =
    let w = step.went in
    let ready = ready_on r r' limit b.ready.same step.ready in
    omega (arith, ready.within, is.1, is.2, w.size, ap length w.parts, length-append (rest_in r) w.more, length-append r'.lines w.over, length-drop r'.skip r'.lines)

-- what may still come and what is held are as many bytes as before
room_kept : (s0 s s' : SourceState) (r r' : Input) (limit : ℕ) (lines : List (List ℕ)) → Between s0 s r limit lines → Step s s' r r'
    → (limit - r'.taken) + length r'.lines ≡ (limit - r.taken) + length (rest_in r)
room_kept s0 s s' r r' limit lines b step =
    let w = step.went in
    omega (arith, step.ready.within, b.ready.same, b.ready.within, w.size, w.beyond, ap length w.parts, length-append (rest_in r) w.more, length-append r'.lines w.over)

pub room_line : (s0 s s' : SourceState) (r r' : Input) (limit : ℕ) (lines : List (List ℕ)) → Between s0 s r limit lines → Step s s' r r' → Is s' r' next.Line
    → length (line_in r') + 1 + ((limit - r'.taken) + length (rest_in r')) ≡ (limit - r.taken) + length (rest_in r)
room_line s0 s s' r r' limit lines b step is =
    omega (arith, room_kept s0 s s' r r' limit lines b step, line_size r'.lines r'.skip is.1 is.2, is.2, length-drop r'.skip r'.lines)

pub room_rest : (s0 s s' : SourceState) (r r' : Input) (limit : ℕ) (lines : List (List ℕ)) → Between s0 s r limit lines → Step s s' r r'
    → length (line_in r') ≤ (limit - r.taken) + length (rest_in r)
room_rest s0 s s' r r' limit lines b step = omega (arith, room_kept s0 s s' r r' limit lines b step, length-take (r'.skip - 1) r'.lines)

-- the lines are no more than the bytes that were taken
pub between_few : (s0 s : SourceState) (r : Input) (limit : ℕ) (lines : List (List ℕ)) → Between s0 s r limit lines → length lines ≤ limit + 1
between_few s0 s r limit lines b = omega (arith, b.gave.few, b.gave.size, b.ready.within)

-- the line after those that were given is such a one
pub record NextIs (P : List ℕ → Type 0) (s0 s : SourceState) (limit : ℕ) (lines : List (List ℕ)) : Type 0 where
  pub taken : List ℕ
  pub took : Consumes s0.left s.left taken
  pub first : (l : List ℕ) × (more : List (List ℕ)) × (lines_within limit taken ≡ lines ++ l ∷ more) × P l
  pub next : (remaining : List ℕ) → IsLeft s.left remaining → (l : List ℕ) × (more : List (List ℕ)) × (lines_within limit (taken ++ remaining) ≡ lines ++ l ∷ more) × P l

-- no more bytes than a buffer has were taken after these lines
pub record FewAfter (taken : List ℕ) (lines : List (List ℕ)) : Type 0 where
  pub front : List ℕ
  pub behind : List ℕ
  pub parts : taken ≡ front ++ behind
  pub up_to : lines_in is_empty front ≡ lines
  pub few : length behind ≤ 4096

-- a whole line
pub next_line : (P : List ℕ → Type 0) (s0 s s' : SourceState) (r r' : Input) (limit : ℕ) (lines : List (List ℕ)) → Between s0 s r limit lines → Step s s' r r' → Is s' r' next.Line
    → P (line_in r') → (n : NextIs P s0 s' limit lines) × FewAfter n.taken (lines ++ line_in r' ∷ [])
next_line P s0 s s' r r' limit lines b step is p =
    let g = gave_given s0 s s' r r' limit lines b step is in
    let ready = ready_on r r' limit b.ready.same step.ready in
    let bytes = (g.prefix ++ rest_in r') ++ g.over in
    let at : (remaining : List ℕ) → (l : List ℕ) × (more : List (List ℕ)) × (lines_within limit (bytes ++ remaining) ≡ lines ++ l ∷ more) × P l =
    λ remaining.
    let all = gave_front s0 s' (rest_in r') r'.taken limit (lines ++ line_in r' ∷ []) g remaining in
    (line_in r', all.0, all.1 ∙ append_assoc lines (line_in r' ∷ []) all.0, p) in
    let none = at [] in (
      record {
        taken = bytes;
        took = g.took;
        first = (none.0, none.1, ap (lines_within limit) (sym (append-nil bytes)) ∙ none.2, none.3);
        next = λ remaining left. at remaining;
      },
      record {
        front = g.prefix;
        behind = rest_in r' ++ g.over;
        parts = append_assoc g.prefix (rest_in r') g.over;
        up_to = ap (lines_in is_empty) (sym (append-nil g.prefix)) ∙ g.cut is_empty [] ∙ append-nil (lines ++ line_in r' ∷ []);
        few = omega (arith, ready.room, g.beyond, length-append (rest_in r') g.over, length-drop r'.skip r'.lines);
      },
    )

-- a line that is too long
pub next_long : (P : List ℕ → Type 0) (s0 s s' : SourceState) (r r' : Input) (limit : ℕ) (lines : List (List ℕ)) → Between s0 s r limit lines → Step s s' r r' → Is s' r' next.Long
    → ((l : List ℕ) → 256 < length l → P l) → NextIs P s0 s' limit lines
next_long P s0 s s' r r' limit lines b step is p =
    let g = gave_after s0 s s' r r' limit lines b step in
    let bytes = (g.prefix ++ r'.lines) ++ g.over in
    let at : (remaining : List ℕ) → (l : List ℕ) × (more : List (List ℕ)) × (lines_within limit (bytes ++ remaining) ≡ lines ++ l ∷ more) × P l =
    λ remaining.
    let long = gave_long s0 s' r'.lines r'.taken limit lines g remaining is.0 in
    (long.0, long.1, long.2, p long.0 long.3) in
    let none = at [] in
    record {
      taken = bytes;
      took = g.took;
      first = (none.0, none.1, ap (lines_within limit) (sym (append-nil bytes)) ∙ none.2, none.3);
      next = λ remaining left. at remaining;
    }

-- the input ended, and these are its lines
pub record AllGiven (s0 s : SourceState) (limit : ℕ) (lines : List (List ℕ)) : Type 0 where
  pub taken : List ℕ
  pub took : Consumes s0.left s.left taken
  pub short : length taken ≤ limit
  pub all : lines_within limit taken ≡ lines
  pub none : (remaining : List ℕ) → IsLeft s.left remaining → remaining ≡ []

-- what was taken within the limit
taken_short : (s0 s : SourceState) (held : List ℕ) (total limit : ℕ) (lines : List (List ℕ)) (g : Gave s0 s held total limit lines) → total ≤ limit
    → length ((g.prefix ++ held) ++ g.over) ≤ limit
taken_short s0 s held total limit lines g within = omega (arith, within, g.size, length-append (g.prefix ++ held) g.over, length-append g.prefix held)

all_held : (s0 s s' : SourceState) (r r' : Input) (limit : ℕ) (lines ls : List (List ℕ)) → Between s0 s r limit lines → Step s s' r r' → IsAtEnd s'.left → r'.taken ≤ r'.limit
    → lines_in is_empty r'.lines ≡ ls → AllGiven s0 s' limit (lines ++ ls)
all_held s0 s s' r r' limit lines ls b step is_end within held =
    let g = gave_after s0 s s' r r' limit lines b step in
    let bytes = (g.prefix ++ r'.lines) ++ g.over in
    let ready = ready_on r r' limit b.ready.same step.ready in
    let short = taken_short s0 s' r'.lines r'.taken limit lines g (omega (arith, within, ready.same)) in
    let none' : g.over ≡ [] = no_length g.over (omega (arith, g.beyond, within, ready.same)) in
    record {
      taken = bytes;
      took = g.took;
      short = short;
      all =
          within_limit bytes limit short ∙ ap (λ o. lines_in is_empty ((g.prefix ++ r'.lines) ++ o)) none' ∙ ap (lines_in is_empty) (append-nil (g.prefix ++ r'.lines))
          ∙ g.cut is_empty r'.lines ∙ ap (λ x. lines ++ x) held;
      none = λ remaining left. at_end s'.left remaining is_end left;
    }

pub all_end : (s0 s s' : SourceState) (r r' : Input) (limit : ℕ) (lines : List (List ℕ)) → Between s0 s r limit lines → Step s s' r r' → Is s' r' next.End
    → AllGiven s0 s' limit lines
all_end s0 s s' r r' limit lines b step is =
    subst (λ ls. AllGiven s0 s' limit ls) (append-nil lines)
    (all_held s0 s s' r r' limit lines [] b step is.2 is.3 (ap (lines_in is_empty) is.0))

pub all_rest : (s0 s s' : SourceState) (r r' : Input) (limit : ℕ) (lines : List (List ℕ)) → Between s0 s r limit lines → Step s s' r r' → Is s' r' next.Rest
    → AllGiven s0 s' limit (lines ++ line_in r' ∷ [])
all_rest s0 s s' r r' limit lines b step is =
    all_held s0 s s' r r' limit lines (line_in r' ∷ []) b step is.2 is.3 (rest_line r'.lines (line_in r') is.0 is.1).1

-- the last line of the input is such a one
pub next_rest : (P : List ℕ → Type 0) (s0 s s' : SourceState) (r r' : Input) (limit : ℕ) (lines : List (List ℕ)) → Between s0 s r limit lines → Step s s' r r' → Is s' r' next.Rest
    → P (line_in r') → (n : NextIs P s0 s' limit lines) × FewAfter n.taken (lines ++ line_in r' ∷ [])
next_rest P s0 s s' r r' limit lines b step is p =
    let a = all_rest s0 s s' r r' limit lines b step is in (
      record {
        taken = a.taken;
        took = a.took;
        first = (line_in r', [], a.all, p);
        next = λ remaining left.
            (line_in r', [], ap (λ x. lines_within limit (a.taken ++ x)) (a.none remaining left) ∙ ap (lines_within limit) (append-nil a.taken) ∙ a.all, p);
      },
      record {
        front = a.taken;
        behind = [];
        parts = sym (append-nil a.taken);
        up_to = sym (within_limit a.taken limit a.short) ∙ a.all;
        few = omega arith;
      },
    )

-- a read failed, and these are the whole lines of what was taken
pub record WholeGiven (s0 s : SourceState) (lines : List (List ℕ)) : Type 0 where
  pub taken : List ℕ
  pub took : Consumes s0.left s.left taken
  pub whole : whole_lines taken ≡ lines

pub whole_fault : (s0 s s' : SourceState) (r r' : Input) (limit : ℕ) (lines : List (List ℕ)) → Between s0 s r limit lines → Step s s' r r' → Is s' r' next.Fault
    → WholeGiven s0 s' lines
whole_fault s0 s s' r r' limit lines b step is =
    let g = gave_after s0 s s' r r' limit lines b step in
    let ready = ready_on r r' limit b.ready.same step.ready in
    record {
      taken = (g.prefix ++ r'.lines) ++ g.over;
      took = g.took;
      whole = gave_fault s0 s' r'.lines r'.taken limit lines g is.0 (omega (arith, is.2, ready.same));
    }

-- the input is longer than its limit, and these are its lines
pub record LimitGiven (s0 s : SourceState) (limit : ℕ) (lines : List (List ℕ)) : Type 0 where
  pub taken : List ℕ
  pub took : Consumes s0.left s.left taken
  pub size : length taken ≡ limit + 1
  pub all : (remaining : List ℕ) → lines_within limit (taken ++ remaining) ≡ lines

pub limit_given : (s0 s s' : SourceState) (r r' : Input) (limit : ℕ) (lines : List (List ℕ)) → Between s0 s r limit lines → Step s s' r r' → Is s' r' next.TooLong
    → LimitGiven s0 s' limit lines
limit_given s0 s s' r r' limit lines b step is =
    let g = gave_after s0 s s' r r' limit lines b step in
    let ready = ready_on r r' limit b.ready.same step.ready in
    let size : r'.taken ≡ limit + 1 = omega (arith, is.2, ready.same) in
    record {
      taken = (g.prefix ++ r'.lines) ++ g.over;
      took = g.took;
      size = omega (arith, size, g.size, length-append (g.prefix ++ r'.lines) g.over, length-append g.prefix r'.lines);
      all = λ remaining. gave_beyond s0 s' r'.lines r'.taken limit lines g remaining is.0 size;
    }
