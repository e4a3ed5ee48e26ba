-- Reads of a volume that is tied may want blocks.
use Rattle.std.specs.Prelude.{ℕ, ◌≡◌, ◌<◌, ◌==◌, ◌||◌, false, List, [], ◌∷◌, All, Some, length, slice_get, slice_index_or}
use Rattle.std.specs.List.{list_any}
use Rattle.std.proofs.Common.{refl, sym, ap, subst, ◌∙◌, arith}
use Rattle.std.proofs.lemmas.Bool.Decides.{nat_tests}
use Rattle.std.proofs.lemmas.List.Elements.{All-head, All-tail}
use Rattle.extent_map.specs.Blocks.{FileStandsIn}
use Rattle.extent_map.specs.Laid.{Laid}
use Rattle.file_tree.specs.Tree.{FileTree}
use Rattle.head_queue.specs.EventLaws.Waiting.{Request}
use Rattle.tape_drive.specs.declared.drive.Drive.{Ghosts}
use Rattle.tape_layout.specs.declared.ops.Op.{Op}
use Rattle.tape_layout.specs.declared.standing.Ends.{Ends}
use Rattle.space_laws.specs.Files.{Files}
use Rattle.promises.specs.ServingPromise.Served.{Fixed}
use Rattle.held_volume.specs.Stocks.{LieAs}
use Rattle.event_journal.specs.Trails.{state}
use Rattle.volume_state.specs.PlanLaws.Planned.{Items, NoMarks}
use Rattle.promises.proofs.ReplyLaws.Lists.{get_within}
use Rattle.waiting_reads.specs.Gathering.{Gathering}
use Rattle.volume_state.specs.StateLaws.Parts.{Parts}
use Rattle.volume_state.specs.StateLaws.Tied.{AreFilesRight, IsTied}
use Rattle.volume_core.specs.VolumeSteps.Wanted.{TiedReadsMayWant}

-- no mark is put where a block of the tree stands
no_marks : (files : Files) (ends : Ends) (ops : List Op) (tree : FileTree) → LieAs files tree → AreFilesRight files ends ops
    → NoMarks ops tree
no_marks files ends ops tree lie right part pos s put =
    right.bytes part pos (record {
      uid = s.file.node.uid;
      block = subst (λ (f : Laid). FileStandsIn f part pos)
          (sym (lie.lies s.file.path s.file.node s.file.room s.file.there s.file.file ∙ s.file.lies)) s.block;
    }) put

unlike : (m n : ℕ) → m < n → (m == n) ≡ false
unlike m n lt = grind (arith, nat_tests)

none_at : (here : ℕ) (rs : List Request) → All (λ (r : Request). r.ticket < here) rs
    → list_any (λ (r : Request). r.ticket == here) rs ≡ false
none_at here [] all = refl
none_at here (r ∷ rs) all =
    ap (λ b. b || list_any (λ (q : Request). q.ticket == here) rs)
    (unlike r.ticket here (All-head (λ (q : Request). q.ticket < here) r rs all))
    ∙ none_at here rs (All-tail (λ (q : Request). q.ticket < here) r rs all)

-- each request is of a call that was placed
tickets_within : {D : Type 0} (drive : Ghosts D) (fixed : Fixed D) (planned : Items) (p : Parts D) → IsTied drive fixed planned p
    → All (λ (r : Request). r.ticket < length p.listed.history) (state p.trail).requests
tickets_within drive fixed planned p tied k d lt =
    let asked = tied.reads.asked k d lt in
    let within : asked.waits.0 < length p.reads = asked.waits.1 in
    let reading = tied.reads.each asked.waits.0 asked.reading within in
    let read_is : slice_index_or p.reads asked.waits.0 asked.reading ≡ asked.reading = asked.waits.2 in
    let placed : slice_get p.listed.history asked.reading.ticket ≡ Some reading.placed =
    subst (λ (g : Gathering). slice_get p.listed.history g.ticket ≡ Some reading.placed) read_is reading.placed_is in
    subst (λ n. n < length p.listed.history) asked.ticket
    (get_within p.listed.history asked.reading.ticket reading.placed placed)

-- reads of a volume that is tied may want blocks
pub can_want : {D : Type 0} (drive : Ghosts D) → TiedReadsMayWant drive
can_want drive fixed planned p tied standing = record {
  first = none_at (length p.listed.history) (state p.trail).requests (tickets_within drive fixed planned p tied);
  ops = sym standing;
  marks = no_marks _ _ p.stock.layout.ops p.stock.tree tied.stock.files tied.files;
}
