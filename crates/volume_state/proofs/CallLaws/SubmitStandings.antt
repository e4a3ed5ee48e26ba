-- What stands once a call is placed that is done, and how its files lie.
use Rattle.std.proofs.Common.{◌≡◌, ℕ, ◌+◌, ◌≤◌, Bool, true, false, List, [], ◌∷◌, ◌++◌, length, take, fold, Option, Some, None, refl, sym, ap, ◌∙◌, subst, arith}
use Rattle.std.specs.List.{enumerate_from}
use Rattle.std.specs.Prelude.{if◌then◌else◌, nat_lt, ◌^◌}
use Rattle.std.specs.FinMap as fin
use Rattle.std.proofs.lemmas.Bool.Decides.{nat_tests}
use Rattle.tape_types.specs.Cartridges.{capacity}
use Rattle.tape_types.specs.declared.cartridges.Limits.{Limits}
use Rattle.tape_types.specs.declared.cartridges.Part.{Part}
use Rattle.tape_types.specs.declared.cartridges.Part.TheVariants.{Ip, Dp}
use Rattle.tape_types.specs.declared.moments.Moment.{Moment}
use Rattle.extent_map.specs.Cells.{Tape}
use Rattle.extent_map.specs.Laid.{resized}
use Rattle.extent_map.proofs.BlockLemmas.{no_other_blocks}
use Rattle.plain_tree.specs.History.{call_at}
use Rattle.plain_tree.specs.Refusals.{no_file, refusal_of, why_missing}
use Rattle.plain_tree.specs.Tree as plain
use Rattle.plain_tree.specs.declared.calls.Refusal.TheVariants.{IsDir, IsLink}
use Rattle.plain_tree.specs.declared.nodes.Kind.TheVariants as plain_kinds
use Rattle.plain_tree.specs.declared.calls.Call.{Call}
use Rattle.plain_tree.specs.declared.calls.Call.TheVariants.{Truncate, Write}
use Rattle.plain_tree.specs.declared.calls.Fate.{Fate}
use Rattle.plain_tree.specs.declared.calls.Fate.TheVariants as fates
use Rattle.plain_tree.specs.declared.calls.Placed.{Placed}
use Rattle.std.specs.Option.{option_map}
use Rattle.file_tree.specs.Tree.{FileTree, plain_kind_of, plain_node_of, plain_of, whole}
use Rattle.file_tree.specs.Valid.{IsFileOf, IsGood}
use Rattle.file_tree.specs.declared.nodes.HeldKind.{HeldKind}
use Rattle.file_tree.specs.declared.nodes.HeldKind.TheVariants as kinds
use Rattle.file_tree.specs.declared.nodes.Node.{Node}
use Rattle.plain_tree.proofs.Validity.{first_none, free_within}
use Rattle.file_tree.proofs.PlainLemmas.{plain_get}
use Rattle.file_tree.proofs.ReadLemmas.{file_of_kind}
use Rattle.held_volume.proofs.Lies.{plain_there}
use Rattle.held_volume.specs.Stocks.{LieAs}
use Rattle.tape_layout.specs.declared.ops.Op.{Op}
use Rattle.tape_layout.specs.declared.standing.Ends.{Ends}
use Rattle.tape_layout.specs.Admissions.{data_limit}
use Rattle.tape_layout.specs.Ops.{AreNext, after_op, after_ops, end_of, with_end}
use Rattle.space_laws.specs.Files.{Files, with_file}
use Rattle.space_laws.specs.Space.{Ask, Rules, Space, change, index, index_need, is_over, nothing, ops_of, store}
use Rattle.space_laws.specs.Space as space
use Rattle.space_laws.specs.Standing.{Given, Standing, after_done, after_placed, ask_of, files_after, first_standing, is_on, rules, standing, uid_at}
use Rattle.promises.proofs.ReplyLaws.Places.{standing_goes_on}
use Rattle.volume_state.specs.PlanLaws.Planned.{Items, ends_in, with_ops}
use Rattle.volume_state.proofs.PlanLaws.Admits.{ends_go_on}
use Rattle.volume_state.proofs.PlanLaws.Ends.{rises}
use Rattle.volume_state.specs.StateLaws.Tied.{AreFilesRight}
use Rattle.volume_state.proofs.CallLaws.SubmitFiled.{cut_adds_none, files_stay, files_stored}

-- ---- what stands

done_by : (g : Given) (on : Bool) (st : Standing) (p : Placed) (fate : Fate) (call : Option Call) (it : Call) → p.fate ≡ fate → fate ≡ fates.Done
    → call_at g.calls p ≡ call → call ≡ Some it → after_placed g on st p ≡ after_done g on st it p.at
done_by g on st p fates.Done None it f d e same = absurd (cc same)
done_by g on st p fates.Done (Some call) it f d e same = rw (f, e) (ap (λ (c : Option Call). left g on st p.at c) same)
  where
    left : Given → Bool → Standing → Moment → Option Call → Standing
    left g on st at None = st
    left g on st at (Some call) = after_done g on st call at
done_by g on st p fates.Void call it f d e same = absurd (cc d)

-- what stands behind a placement that is done is what its call leaves
pub stands_next : (g : Given) (on : Option ℕ) (history : List Placed) (p : Placed) (call : Call) → p.fate ≡ fates.Done → call_at g.calls p ≡ Some call
    → standing g on (history ++ p ∷ []) (length history + 1)
    ≡ after_done g (is_on g.mounted on (length history)) (standing g on history (length history)) call p.at
stands_next g on history p call fate is = (standing_goes_on g on history p).behind
    ∙ done_by g (is_on g.mounted on (length history)) (standing g on history (length history)) p p.fate (call_at g.calls p) call refl fate refl is

-- ---- both partitions have their labels before the ends

rises_all : (part : Part) (ops : List Op) (e : Ends) → AreNext e ops → end_of part e ≤ end_of part (after_ops e ops)
rises_all part [] e follows = omega arith
rises_all part (op ∷ ops) e follows = omega (arith, rises part e op follows.0, rises_all part ops (after_op e op) follows.1)

asked_rises : (v : Rules) (on : Bool) (s : Space) (ask : Ask) (part : Part) → end_of part s.ends ≤ end_of part (space.after v on s ask).ends
asked_rises v on s ask part =
    subst (λ (e : Ends). end_of part s.ends ≤ end_of part e) (sym (ends_go_on.leaves v on s ask))
    (rises_all part (ops_of v on s ask) s.ends (ends_go_on.admits v on s ask))

placed_rises : (g : Given) (on : Bool) (st : Standing) (p : Placed) (part : Part) (fate : Fate) (call : Option Call) → p.fate ≡ fate → call_at g.calls p ≡ call
    → end_of part st.space.ends ≤ end_of part (after_placed g on st p).space.ends
placed_rises g on st p part fates.Void call f e = rw f (omega arith)
placed_rises g on st p part fates.Done None f e = rw (f, e) (omega arith)
placed_rises g on st p part fates.Done (Some call) f e = rw (f, e) (asked_rises (rules g) on st.space (ask_of g st call p.at) part)

all_rise : (g : Given) (on : Option ℕ) (part : Part) (es : List (ℕ × Placed)) (st : Standing)
    → end_of part st.space.ends ≤ end_of part (fold (λ st e. after_placed g (is_on g.mounted on e.0) st e.1) st es).space.ends
all_rise g on part [] st = omega arith
all_rise g on part (e ∷ es) st = omega (
  arith,
  placed_rises g (is_on g.mounted on e.0) st e.1 part e.1.fate (call_at g.calls e.1) refl refl,
  all_rise g on part es (after_placed g (is_on g.mounted on e.0) st e.1),
)

-- both ends of what stands lie behind the labels
pub stands_low : (g : Given) (on : Option ℕ) (history : List Placed) (k : ℕ) → 4 ≤ g.mounted.ends.ip → 4 ≤ g.mounted.ends.dp
    → (part : Part) → 4 ≤ end_of part (standing g on history k).space.ends
stands_low g on history k ip dp Ip = omega (arith, ip, all_rise g on Ip (enumerate_from 0 (take k history)) (first_standing g))
stands_low g on history k ip dp Dp = omega (arith, dp, all_rise g on Dp (enumerate_from 0 (take k history)) (first_standing g))

-- ---- both partitions end within their capacities

not_over : (a b : ℕ) → nat_lt a b ≡ false → b ≤ a
not_over a b e = grind (arith, nat_tests, e)

-- where an index isn't over the limit, it ends within the capacity
index_within : (v : Rules) (on : Bool) (s : Space) (text : List ℕ) → is_over v on s (index text) ≡ false → index_need v Dp s text ≤ v.limits.cap_dp
index_within v on s text is = by (nat_lt (2 ^ 62) (s.newest + 1)) refl is
  where
    by : (b : Bool) → nat_lt (2 ^ 62) (s.newest + 1) ≡ b
        → nat_lt (if b then 2 ^ 62 else v.limits.cap_dp) (if b then s.newest + 1 else index_need v Dp s text) ≡ false
        → index_need v Dp s text ≤ v.limits.cap_dp
    by true none over = absurd (let wrong : true ≡ false = sym none ∙ over in cc wrong)
    by false some over = not_over v.limits.cap_dp (index_need v Dp s text) over

end_set : (limits : Limits) (e : Ends) (n : ℕ) (part : Part) → n ≤ capacity part limits → ((p : Part) → end_of p e ≤ capacity p limits)
    → (other : Part) → end_of other (with_end part n e) ≤ capacity other limits
end_set limits e n Ip most room Ip = most
end_set limits e n Ip most room Dp = room Dp
end_set limits e n Dp most room Ip = room Ip
end_set limits e n Dp most room Dp = most

-- the ends behind a call that fits lie within the capacities
pub room_on : (v : Rules) (on : Bool) (s : Space) (ask : Ask) (part : Part) → is_over v on s ask ≡ false
    → ((p : Part) → end_of p s.ends ≤ capacity p v.limits) → end_of part (space.after v on s ask).ends ≤ capacity part v.limits
room_on v on s nothing part fits room = room part
room_on v on s change part fits room = room part
room_on v on s (index text) part fits room =
    end_set v.limits s.ends (index_need v Dp s text) Dp (index_within v on s text fits) room part
room_on v on s (store wanted bytes) part fits room =
    end_set v.limits s.ends (end_of to s.ends + space.blocks v bytes) to (omega (
      arith,
      not_over (data_limit (capacity to v.limits)) (end_of to s.ends + space.blocks v bytes) fits,
    )) room part
  where
    to : Part
    to = space.part_for v on s wanted bytes

-- ---- the file of a write

missing : (m : plain.Nodes) (path : List (List ℕ)) → fin.get m path ≡ None → no_file m path ≡ Some (why_missing m path (length path))
missing m path gone = rw gone refl

-- the file to which bytes may go lies as files of the volume do
pub file_lies : (tape : Tape) (t : FileTree) (files : Files) (path : List (List ℕ)) (offset : ℕ) (bytes : List ℕ) → IsGood t → LieAs files t
    → refusal_of (plain_of whole t) (Write path offset bytes) ≡ None → IsFileOf t.block_size (files (uid_at (plain_of tape t).nodes path))
file_lies tape t files path offset bytes good lie free =
    by (fin.get t.nodes path) refl
    (first_none (no_file (plain_of whole t).nodes path) _ (free_within (plain_of whole t) (Write path offset bytes) free).1).0
  where
    is_file : (node : Node) (k : HeldKind) → fin.get t.nodes path ≡ Some node → node.kind ≡ k → no_file (plain_of whole t).nodes path ≡ None
        → IsFileOf t.block_size (files (uid_at (plain_of tape t).nodes path))
    is_file node kinds.Dir there is none =
        let wrong : None ≡ Some IsDir = sym none ∙ file_of_kind whole t.nodes path node plain_kinds.Dir there (ap (plain_kind_of whole) is) in
        absurd (cc wrong)
    is_file node (kinds.Link text) there is none =
        let wrong : None ≡ Some IsLink = sym none ∙ file_of_kind whole t.nodes path node (plain_kinds.Link text) there (ap (plain_kind_of whole) is) in
        absurd (cc wrong)
    is_file node (kinds.File room) there is none =
        let there_too = plain_there tape t path node there in
        let uid : uid_at (plain_of tape t).nodes path ≡ node.uid = rw there_too refl in
        subst (λ l. IsFileOf t.block_size l) (sym (ap files uid ∙ lie.lies path node room there is)) (good.files path node room there is)

    by : (o : Option Node) → fin.get t.nodes path ≡ o → no_file (plain_of whole t).nodes path ≡ None
        → IsFileOf t.block_size (files (uid_at (plain_of tape t).nodes path))
    by (Some node) there none = is_file node node.kind there refl none
    by None there none =
        let gone : fin.get (plain_of whole t).nodes path ≡ None = plain_get whole t.nodes path ∙ ap (option_map (plain_node_of whole)) there in
        let wrong : None ≡ Some (why_missing (plain_of whole t).nodes path (length path)) =
        sym none ∙ missing (plain_of whole t).nodes path gone in
        absurd (cc wrong)

-- ---- how the files lie

module _ (g : Given) (on : Bool) (st : Standing) (planned : Items) (ops : List Op) (ends : st.space.ends ≡ ends_in planned)
    (low : (part : Part) → 4 ≤ end_of part (ends_in planned)) (some : 1 ≤ g.mounted.label.block)
    (right : AreFilesRight st.files (ends_in planned) ops) where
  -- they are right with the ops of what is asked
  abbrev pub IsRightWith : Files → Ask → Type 0
  IsRightWith files ask =
      AreFilesRight files (ends_in (with_ops (ops_of (rules g) on st.space ask) planned)) (ops ++ ops_of (rules g) on st.space ask)

  pub follows_by : (ask : Ask) → AreNext (ends_in planned) (ops_of (rules g) on st.space ask)
  follows_by ask = subst (λ (e : Ends). AreNext e (ops_of (rules g) on st.space ask)) ends (ends_go_on.admits (rules g) on st.space ask)

  same_files : (ask : Ask) → IsRightWith st.files ask
  same_files ask = files_stay planned ops (ops_of (rules g) on st.space ask) st.files st.files (follows_by ask) (λ part pos stands. stands) right

  cut_files : (uid size : ℕ) (ask : Ask)
      → IsRightWith (with_file uid (λ f. resized f size) st.files) ask
  cut_files uid size ask = files_stay planned ops (ops_of (rules g) on st.space ask) st.files
      (with_file uid (λ f. resized f size) st.files)
      (follows_by ask) (cut_adds_none no_other_blocks uid size st.files) right

  stored_files : (path : List (List ℕ)) (offset : ℕ) (bytes : List ℕ) (ask : Ask)
      → IsFileOf g.mounted.label.block (st.files (uid_at st.tree.nodes path)) → IsRightWith (files_after g on st (Write path offset bytes) ask) ask
  stored_files path offset bytes nothing file = same_files nothing
  stored_files path offset bytes change file = same_files change
  stored_files path offset bytes (index text) file = same_files (index text)
  stored_files path offset bytes (store wanted more) file =
      files_stored no_other_blocks planned ops st.files (uid_at st.tree.nodes path) g.mounted.label.block
      (record { offset = offset; part = part; block = end_of part st.space.ends; byte = 0; count = length more }) more
      (follows_by (store wanted more)) low file.lies file.size some (ap (end_of part) ends) refl refl right
    where
      part : Part
      part = space.part_for (rules g) on st.space wanted more

  cut_short_files : (path : List (List ℕ)) (size : ℕ) (ask : Ask) → IsRightWith (files_after g on st (Truncate path size) ask) ask
  cut_short_files path size nothing = same_files nothing
  cut_short_files path size change = cut_files (uid_at st.tree.nodes path) size change
  cut_short_files path size (store wanted bytes) = same_files (store wanted bytes)
  cut_short_files path size (index text) = same_files (index text)

  -- the files behind a call are right, with the blocks that it stored
  pub files_right : (call : Call) (ask : Ask)
      → ((path : List (List ℕ)) (offset : ℕ) (bytes : List ℕ) → call ≡ Write path offset bytes
      → IsFileOf g.mounted.label.block (st.files (uid_at st.tree.nodes path)))
      → IsRightWith (files_after g on st call ask) ask
  files_right (Write path offset bytes) ask file = stored_files path offset bytes ask (file path offset bytes refl)
  files_right (Truncate path size) ask file = cut_short_files path size ask
  files_right _ ask file = same_files ask
