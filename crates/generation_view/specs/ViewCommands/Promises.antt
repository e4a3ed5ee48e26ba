-- What is promised of the commands that tell of generations: their status, what they print, and what they leave of the
-- drive.
use Rattle.std.specs.Prelude.{ℕ, ◌≡◌, ◌⊎◌, ◌+◌, ◌*◌, List, [], ◌∷◌, codes, Option, Some, None, IfSome}
use Rattle.std.specs.Io.KnownBytes.{Appends}
use Rattle.tape_types.specs.Counts.{IsRise, Rose}
use Rattle.tape_types.specs.declared.cartridges.Cartridge.{Cartridge}
use Rattle.tape_types.specs.declared.cartridges.Twin.{Twin}
use Rattle.tape_drive.specs.Looks.{Looks}
use Rattle.tape_drive.specs.declared.drive.Drive.{Ghosts}
use Rattle.plain_tree.specs.Paths.{Path}
use Rattle.plain_tree.specs.Tree.{Tree}
use Rattle.plain_tree.specs.declared.calls.Answer.{Answer}
use Rattle.index_model.specs.declared.indexes.Index.{Index}
use Rattle.session_script.specs.declared.logs.Log.{Log}
use Rattle.cartridge_meaning.specs.Meaning.{Found}
use Rattle.cartridge_meaning.specs.declared.errors.MountErr.TheVariants as mounts
use Rattle.commands.specs.declared.command_line.views.ViewWords.{ViewWords}
use Rattle.generation_view.specs.Chain.{GenTree, IsChain}
use Rattle.generation_view.specs.Told.{RefusesChain, TellsChain}
use Rattle.generation_view.specs.Views.{RefusesView}
use Rattle.generation_view.specs.declared.errors.ViewErr.{ViewErr}
use Rattle.generation_view.specs.declared.telling.Generation.{Generation}
use Rattle.commands.specs.BasicCommands.Headline.{IsDriveFaultPrinted}
use Rattle.commands.specs.BasicCommands.Labels.{mount_text}
use Rattle.commands.specs.BasicCommands.Listings.{Listing, part_of_listing, text_of_listing}
use Rattle.commands.specs.BasicCommands.Outcomes.{IsTold}
use Rattle.commands.specs.BasicCommands.Runs.{IsOneOf, Written, looked}
use Rattle.generation_view.specs.ViewCommands.Outcomes.{AreBlocksFor, ChainEnd, IsAnswerOf, IsChainEnd, IsSeenFor}
use Rattle.generation_view.specs.ViewCommands.Outcomes.{IsViewEnd, ViewEnd, chain_status, chain_text, end_status}
use Rattle.generation_view.specs.ViewCommands.Outcomes.{end_text}
use Rattle.generation_view.specs.ViewCommands.Texts.{answer_line, generations_text, view_status, view_text}

-- the generations were printed, and where the drive told a cartridge they are its chain
abbrev pub AreGenerationsPrinted : Option Cartridge → (old new : Option (List ℕ)) → Type 0
AreGenerationsPrinted held old new =
    (told : List Generation) × IfSome held (TellsChain told) × Appends old new (generations_text told)

-- the line was printed that says why, where the drive told a cartridge
abbrev pub IsRefusalPrinted : Option Cartridge → (ViewErr → Cartridge → Type 0) → (old new : Option (List ℕ)) → Type 0
IsRefusalPrinted held refuses old new =
    (e : ViewErr) × (view_status e ≡ 3) × IfSome held (refuses e) × Appends old new (view_text e)

-- `generations`, of the cartridge that the drive held, where it tells that
pub record DoesGenerations {D : Type 0} (drive : Ghosts D) (old new : D) (sink : Written) (status : ℕ)
    (log : Option Log) : Type 0 where
  pub statuses : IsOneOf status (0 ∷ 3 ∷ 4 ∷ 6 ∷ 7 ∷ [])
  pub printed : status ≡ 0 → AreGenerationsPrinted (drive.held old) sink.old sink.new
  -- a cartridge without a whole chain is told by its first check or its first index that fails, unless the drive or the
  -- sink fails or memory is refused, and only such a cartridge
  pub chain : IfSome (drive.held old)
      (λ c. ((told : List Generation) → ¬ TellsChain told c) → IsOneOf status (3 ∷ 4 ∷ 6 ∷ 7 ∷ []))
  pub only_chain : status ≡ 3 → IsRefusalPrinted (drive.held old) RefusesChain sink.old sink.new
  pub only_drive : status ≡ 4 → IsDriveFaultPrinted (drive.faults old) (drive.faults new) sink.old sink.new
  pub only_write : status ≡ 6 → Rose sink.before sink.now
  pub memory : status ≡ 7 → Appends sink.old sink.new (codes "memory\n")
  -- with a whole chain and no fault all is done, unless memory is refused
  pub complete : ¬ (Rose (drive.faults old) (drive.faults new)) → ¬ (Rose sink.before sink.now)
      → IfSome (drive.held old) (λ c. (found : Found c) (links : List Index) → IsChain c found links
      → IsOneOf status (0 ∷ 7 ∷ []))
  -- the cartridge is only looked at
  pub looks : Looks drive ((26 + 2 * (drive.limits old).cap_ip + 5 * (drive.limits old).cap_dp) * drive.MOST) old new
  pub no_log : log ≡ None
  pub told : (end : ChainEnd) × IsChainEnd (looked drive old new) end
      × IsTold (chain_status end) (chain_text end) sink status

-- the listing of a generation was printed, or the reply to a read of a file of it, as was asked, and where the drive
-- told a cartridge it is of that
abbrev pub IsViewPrinted : ViewWords → Option Cartridge → (old new : Option (List ℕ)) → Type 0
IsViewPrinted asked held old new =
    ((asked.path ≡ None) × (l : Listing) × IsSeenFor asked held l × Appends old new (text_of_listing l))
    ⊎ ((path : Path) × (asked.path ≡ Some path) × (told : Answer)
    × IfSome held (λ c. IsAnswerOf asked.generation path c told) × Appends old new (answer_line told))

-- two counts of a drive that failed meanwhile were printed
abbrev pub IsFaultPrinted : (before now : ℕ) → (old new : Option (List ℕ)) → Type 0
IsFaultPrinted before now old new =
    (counts : Twin) × IsRise before now counts.before counts.after
    × Appends old new (mount_text (mounts.Drive counts))

-- so many whole lines of such a listing, from its front, may have been printed, and then that memory was refused
abbrev pub IsPartSeen : ViewWords → Option Cartridge → (old new : Option (List ℕ)) → Type 0
IsPartSeen asked held old new =
    Appends old new (codes "memory\n")
    ⊎ ((l : Listing) × IsSeenFor asked held l × (count : ℕ) × Appends old new (part_of_listing count l))

-- no tree is that of the generation
abbrev pub HasNoTree : ℕ → Cartridge → Type 0
HasNoTree generation c = (found : Found c) (tree : Tree) → ¬ GenTree c found generation tree

-- `view` with these words, of the cartridge that the drive held, where it tells that
pub record DoesView {D : Type 0} (asked : ViewWords) (drive : Ghosts D) (old new : D) (sink : Written) (status : ℕ)
    (log : Option Log) : Type 0 where
  pub statuses : IsOneOf status (0 ∷ 3 ∷ 4 ∷ 6 ∷ 7 ∷ [])
  pub printed : status ≡ 0 → IsViewPrinted asked (drive.held old) sink.old sink.new
  -- a cartridge without the generation is told by its first check that fails, by the index at which the way breaks, or
  -- by the number, unless the drive or the sink fails or memory is refused, and only such a cartridge
  pub view : IfSome (drive.held old) (λ c. HasNoTree asked.generation c → IsOneOf status (3 ∷ 4 ∷ 6 ∷ 7 ∷ []))
  pub only_view : status ≡ 3 → IsRefusalPrinted (drive.held old) (RefusesView asked.generation) sink.old sink.new
  pub only_drive : status ≡ 4 → IsFaultPrinted (drive.faults old) (drive.faults new) sink.old sink.new
  pub only_write : status ≡ 6 → Rose sink.before sink.now
  -- whole lines of the tree from the front may stand before the line that tells it
  pub memory : status ≡ 7 → IsPartSeen asked (drive.held old) sink.old sink.new
  -- with the generation and no fault all is done, unless memory is refused
  pub complete : ¬ (Rose (drive.faults old) (drive.faults new)) → ¬ (Rose sink.before sink.now)
      → IfSome (drive.held old) (λ c. (found : Found c) (tree : Tree) → GenTree c found asked.generation tree
      → IsOneOf status (0 ∷ 7 ∷ []))
  -- the cartridge is only looked at: as it is opened, and with two commands for each block that is read
  pub looks : (blocks : ℕ) × AreBlocksFor asked (drive.held old) blocks
      × Looks drive ((26 + 2 * (drive.limits old).cap_ip + 5 * (drive.limits old).cap_dp + 2 * blocks) * drive.MOST)
      old new
  pub no_log : log ≡ None
  pub told : (end : ViewEnd) × IsViewEnd asked (looked drive old new) end
      × IsTold (end_status end) (end_text end) sink status
