use Rattle.std.proofs.Common.{◌≡◌, sym, ap, ◌∙◌, rules}
use Rattle.km_track.specs.Tracker.{tracked_in, live_from}
use Rattle.km_scan.specs.declared.places.At.TheVariants.{Block}
use Rattle.km_scan.specs.declared.places.Cursor.{Cursor}
use Rattle.km_scan.specs.declared.places.Cursor.TheVariants.{Behind, Last}
use Rattle.km_scan.specs.declared.places.Pass.TheVariants.{Sums}
use Rattle.km_scan.specs.Places.{cursor_of}
use Rattle.km_scan.specs.Stand.{white_next_in}
use Rattle.km_scan.proofs.Whites.{behind_rest, walk_live, white_rest}
use Rattle.km_scan.proofs.sums.next_white.Goals as goal

pub first_white-requires : goal.first_white-requires
first_white-requires g c =
    let t = c.args.track.now in
    let a = c.in-Last-Block-Sums-default-default in
    let r = c.first.ensures.rising in
    let e : c.args.cursor ≡ Last (Block Sums a.id a.field-0-2) = search rules in
    walk_live t.live t.registered c.next.result (behind_rest t.live t.registered c.next.result a.id r (c.requires a.id a.field-0-2 e) c.next.ensures).0 r

pub returns-in-Last-Block-Sums-default-default-clause-place : goal.returns-in-Last-Block-Sums-default-default-clause-place
returns-in-Last-Block-Sums-default-default-clause-place g c =
    let t = c.args.track.now in
    let a = c.in-Last-Block-Sums-default-default in
    let r = c.first.ensures.rising in
    let e : c.args.cursor ≡ Last (Block Sums a.id a.field-0-2) = search rules in
    c.first_white.ensures.place ∙ white_rest a.id.generation t.live (live_from c.next.result t.live) (behind_rest t.live t.registered c.next.result a.id r (c.requires a.id a.field-0-2 e) c.next.ensures).1
    ∙ ap (λ (k : Cursor). white_next_in (tracked_in t) (cursor_of k)) (sym e)

pub returns-in-Behind-Sums-default-clause-place : goal.returns-in-Behind-Sums-default-clause-place
returns-in-Behind-Sums-default-clause-place g c =
    let t = c.args.track.now in
    let a = c.in-Behind-Sums-default in
    let e : c.args.cursor ≡ Behind Sums a.generation = search rules in
    c.first_white-in-Behind-Sums-default.ensures.place ∙ white_rest a.generation t.live (live_from c.first_behind.result t.live) c.first_behind.ensures.rest
    ∙ ap (λ (k : Cursor). white_next_in (tracked_in t) (cursor_of k)) (sym e)
