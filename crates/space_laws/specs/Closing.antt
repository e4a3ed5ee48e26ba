-- What a close asks of the tape.
use Rattle.std.specs.Prelude.{ℕ, ◌+◌, ◌&&◌, ◌||◌, not, if◌then◌else◌, Bool, List, length, Option}
use Rattle.tape_types.specs.declared.moments.Moment.{Moment}
use Rattle.tape_types.specs.declared.cartridges.Part.TheVariants.{Ip}
use Rattle.plain_tree.specs.declared.calls.Placed.{Placed}
use Rattle.space_laws.specs.Files.{canon, index_at}
use Rattle.space_laws.specs.Space as space
use Rattle.space_laws.specs.Space.{Ask, Space, index, index_need, nothing}
use Rattle.space_laws.specs.Standing.{Given, Standing, is_on, rules, standing, sync_text}

-- an index is due on the data partition: the tree has changed, or it doesn't end with the chosen index and has got none
-- since
abbrev pub is_dp_due : Given → Space → Bool
is_dp_due g s = s.changed || (not g.mounted.dp_done && not s.admitted)

-- what a close asks of the data partition at a moment
abbrev pub close_ask : Given → Standing → Moment → Ask
close_ask g st at = if is_dp_due g st.space then index (sync_text g st at) else nothing

-- what stands once the close has admitted that
abbrev pub closing : Given → Option ℕ → List Placed → Moment → Standing
closing g on history at = by (standing g on history (length history))
  where
    by : Standing → Standing
    by st =
        record st { space = space.after (rules g) (is_on g.mounted on (length history)) st.space (close_ask g st at) }

-- an index of this generation is due on the index partition
abbrev pub is_ip_due : Given → Space → Bool
is_ip_due g s = s.admitted || not g.mounted.ip_done

-- the text of the close's index on the index partition, which has the data partition's generation and points back to it
abbrev pub close_text : Given → Standing → Moment → List ℕ
close_text g st at =
    canon (index_at g.mounted st.tree st.files st.space.newest at Ip (st.space.ends.ip + 1) st.space.last_dp)

-- what that index needs, and how many positions there are for it: it has no new generation
abbrev pub close_need : Given → Standing → Moment → ℕ
close_need g st at = index_need (rules g) Ip st.space (close_text g st at)

abbrev pub close_limit : Given → ℕ
close_limit g = g.limits.cap_ip
