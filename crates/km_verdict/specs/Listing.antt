-- The verdict and the listing among tracked blocks.
use Rattle.std.specs.Prelude.{ℕ, ◌∷◌, List, [], find, map, Option, option_map, if◌then◌else◌}
use Rattle.km_base.specs.declared.acts.Info.{Info}
use Rattle.km_model.specs.Blocks.{contains, painted_grey}
use Rattle.km_record.specs.declared.kinds.RecId.{RecId}
use Rattle.km_state.specs.State.{Tracked, is_listed_now, tracked_where}
use Rattle.km_state.specs.StateAnswers.{info_in}
use Rattle.km_state.specs.StateAfter.{judged}
use Rattle.km_track.specs.Tracker.{Live, Tracker, changed, id_of, is_id, tracked_in}

-- the tracker with the verdict of a scan that began at a moment
abbrev pub flagged : ℕ → Tracker → Tracker
flagged began t = record t { live = map (λ (l : Live). record l { tracked = judged began l.tracked }) t.live }

-- the id of the first listed one of these
abbrev pub listed_in : List Live → Option RecId
listed_in ls = option_map id_of (find (λ (l : Live). is_listed_now l.tracked) ls)

-- those that were registered behind a block
abbrev pub behind : RecId → List Live → List Live
behind id [] = []
behind id (l ∷ ls) = if is_id id l then ls else behind id ls

-- the tracker with the listed blocks painted grey
abbrev pub cleared : Tracker → Tracker
cleared t = changed (λ (l : Live). is_listed_now l.tracked) (λ (u : Tracked). record u { block = painted_grey u.block }) t

-- what is shown of the block that has a byte
abbrev pub shown_at : ℕ → Tracker → Option Info
shown_at a t = option_map info_in (tracked_where (contains a) (tracked_in t))

-- the tracker with one block painted grey
abbrev pub painted_in : RecId → Tracker → Tracker
painted_in id t = changed (is_id id) (λ (u : Tracked). record u { block = painted_grey u.block }) t
