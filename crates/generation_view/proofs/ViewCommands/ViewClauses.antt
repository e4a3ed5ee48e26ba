-- What `generations` and `view` promise, from what they come to and what is told of that.
use Rattle.std.proofs.Common.{◌≡◌, ◌∙◌, ◌⊎◌, ℕ, ◌+◌, ◌*◌, ◌≤◌, Bool, List, [], ◌∷◌, ◌++◌, length, Option, Some, None, Ok, Err, codes, refl, sym, ap, subst, inl, inr, arith}
use Rattle.std.specs.Prelude.{IfSome}
use Rattle.std.specs.Io.KnownBytes.{Appends}
use Rattle.tape_types.specs.Counts.{IsRise, Rose}
use Rattle.tape_types.specs.declared.cartridges.Cartridge.{Cartridge}
use Rattle.tape_types.specs.declared.cartridges.Twin.{Twin}
use Rattle.tape_drive.specs.Looks.{Looks}
use Rattle.tape_drive.specs.declared.drive.Drive.{Ghosts}
use Rattle.tape_drive.proofs.Looking.{then_looks}
use Rattle.extent_map.specs.Cells.{Tape, tape_of}
use Rattle.file_tree.specs.Tree.{plain_of, whole}
use Rattle.index_model.specs.declared.indexes.Index.{Index}
use Rattle.plain_tree.specs.Calls.{answer}
use Rattle.plain_tree.specs.Paths.{Path}
use Rattle.plain_tree.specs.Tree.{Tree}
use Rattle.plain_tree.specs.declared.calls.Answer.{Answer}
use Rattle.plain_tree.specs.declared.calls.Call.TheVariants.{Read}
use Rattle.session_script.specs.declared.logs.Log.{Log}
use Rattle.cartridge_meaning.specs.Meaning.{Found}
use Rattle.cartridge_meaning.specs.declared.errors.MountErr.TheVariants as mounts
use Rattle.commands.specs.declared.command_line.views.ViewWords.{ViewWords}
use Rattle.generation_view.specs.Chain.{GenTree, IsChain}
use Rattle.generation_view.specs.Reads.{IsReadBy, blocks_read}
use Rattle.generation_view.specs.Told.{AreCounts, RefusesChain, TellsChain}
use Rattle.generation_view.specs.Views.{IsViewOf, Opened, RefusesView}
use Rattle.generation_view.specs.declared.errors.ReadErr.{ReadErr}
use Rattle.generation_view.specs.declared.errors.ReadErr.TheVariants as read_errors
use Rattle.generation_view.specs.declared.errors.ViewErr.{ViewErr}
use Rattle.generation_view.specs.declared.errors.ViewErr.TheVariants as errors
use Rattle.generation_view.specs.declared.telling.Generation.{Generation}
use Rattle.commands.specs.BasicCommands.Headline.{IsDriveFaultPrinted}
use Rattle.commands.specs.BasicCommands.Labels.{mount_text}
use Rattle.commands.specs.BasicCommands.Listings.{Listing, text_of_listing}
use Rattle.commands.specs.BasicCommands.Outcomes.{IsListingTold, IsTold}
use Rattle.commands.specs.BasicCommands.Runs.{IsOneOf, Looked, Written, looked}
use Rattle.commands.proofs.BasicCommands.MountClauses.{among_all, among_refused}
use Rattle.commands.proofs.BasicCommands.Told.{by_six, by_status, by_text, if_some, of_some}
use Rattle.generation_view.specs.ViewCommands.Outcomes.{AreBlocksAt, AreBlocksFor, ChainEnd, IsAnswerOf, IsChainEnd, IsReadTold, IsReplyTold, IsSeenFor, IsSeenOf, IsSeenTold, IsViewEnd, ViewEnd, all_told, answered, chain_status, chain_text, end_status, end_text, seen, seen_of, seen_part, unread, unseen, untold}
use Rattle.generation_view.specs.ViewCommands.Promises.{AreGenerationsPrinted, DoesGenerations, DoesView, HasNoTree, IsFaultPrinted, IsPartSeen, IsRefusalPrinted, IsViewPrinted}
use Rattle.generation_view.specs.ViewCommands.Texts.{answer_line, generations_text, view_status, view_text}
use Rattle.generation_view.proofs.ViewCommands.Ends.{chain_done, drive_told, fault_told, memory_told, view_done, view_isnt, view_known}

-- ---- `generations`

chain_status_is : (end : ChainEnd) → IsOneOf (chain_status end) (0 ∷ 3 ∷ 4 ∷ 6 ∷ 7 ∷ [])
chain_status_is (all_told told) = inl refl
chain_status_is (untold e) = among_all (view_status e) (view_known e)

chain_not_six : (end : ChainEnd) → chain_status end ≡ 6 → ⊥
chain_not_six (all_told told) six = absurd (cc six)
chain_not_six (untold e) six = view_isnt e 6 (λ x. cc x) (λ x. cc x) (λ x. cc x) six

module _ (drive : Looked) (sink : Written) where
  chain_printed : (end : ChainEnd) → IsChainEnd drive end → (chain_status end ≡ 0) × Appends sink.old sink.new (chain_text end)
      → AreGenerationsPrinted drive.held sink.old sink.new
  chain_printed (all_told told) is text = (told, is, text.1)
  chain_printed (untold e) is text = absurd (view_isnt e 0 (λ x. cc x) (λ x. cc x) (λ x. cc x) text.0)

  chain_refused : (end : ChainEnd) → IsChainEnd drive end → (chain_status end ≡ 3) × Appends sink.old sink.new (chain_text end)
      → IsRefusalPrinted drive.held RefusesChain sink.old sink.new
  chain_refused (all_told told) is text = absurd (cc text.0)
  chain_refused (untold e) is text = (e, text.0, is.0, text.1)

  chain_failed : (end : ChainEnd) → IsChainEnd drive end → (chain_status end ≡ 4) × Appends sink.old sink.new (chain_text end)
      → IsDriveFaultPrinted drive.before drive.now sink.old sink.new
  chain_failed (all_told told) is text = absurd (cc text.0)
  chain_failed (untold e) is text = drive_told e drive.before drive.now sink.old sink.new is.1 text

  chain_memory : (end : ChainEnd) → IsChainEnd drive end → (chain_status end ≡ 7) × Appends sink.old sink.new (chain_text end)
      → Appends sink.old sink.new (codes "memory\n")
  chain_memory (all_told told) is text = absurd (cc text.0)
  chain_memory (untold e) is text = memory_told e drive.before drive.now sink.old sink.new is.1 text

chain_lacks : (drive : Looked) (end : ChainEnd) (c : Cartridge) → IsChainEnd drive end → drive.held ≡ Some c → ((told : List Generation) → ¬ TellsChain told c)
    → IsOneOf (chain_status end) (3 ∷ 4 ∷ 6 ∷ 7 ∷ [])
chain_lacks drive (all_told told) c is held none = absurd (none told (of_some drive.held (TellsChain told) c held is))
chain_lacks drive (untold e) c is held none = among_refused (view_status e) (view_known e)

chain_whole : (drive : Looked) (end : ChainEnd) (c : Cartridge) → IsChainEnd drive end → drive.held ≡ Some c → (found : Found c) (links : List Index) → IsChain c found links
    → ¬ (Rose drive.before drive.now) → IsOneOf (chain_status end) (0 ∷ 7 ∷ [])
chain_whole drive (all_told told) c is held found links chain still = inl refl
chain_whole drive (untold e) c is held found links chain still =
    chain_done c drive.before drive.now e found links chain (of_some drive.held (RefusesChain e) c held is.0) is.1 still

module _ {D : Type 0} (drive : Ghosts D) (old new : D) (sink : Written) (status : ℕ) (log : Option Log) where
  -- how a chain came to its end, and what was told of it, are what `generations` promises
  pub chain_does : (end : ChainEnd) → IsChainEnd (looked drive old new) end
      → Looks drive ((26 + 2 * (drive.limits old).cap_ip + 5 * (drive.limits old).cap_dp) * drive.MOST) old new → log ≡ None
      → IsTold (chain_status end) (chain_text end) sink status → DoesGenerations drive old new sink status log
  chain_does end is looks none told =
      let seen = looked drive old new in
      let w = chain_status end in
      let t = chain_text end in record {
        statuses = by_status (λ n. IsOneOf n (0 ∷ 3 ∷ 4 ∷ 6 ∷ 7 ∷ [])) w t sink status told (chain_status_is end) (λ rose. inr (inr (inr (inl refl))));
        printed = λ zero. chain_printed seen sink end is (by_text 0 w t sink status told (λ e. cc e) zero);
        chain = if_some (drive.held old) (λ c. ((told : List Generation) → ¬ TellsChain told c) → IsOneOf status (3 ∷ 4 ∷ 6 ∷ 7 ∷ []))
            (λ c held lacks. by_status (λ n. IsOneOf n (3 ∷ 4 ∷ 6 ∷ 7 ∷ [])) w t sink status told (chain_lacks seen end c is held lacks) (λ rose. inr (inr (inl refl))));
        only_chain = λ three. chain_refused seen sink end is (by_text 3 w t sink status told (λ e. cc e) three);
        only_drive = λ four. chain_failed seen sink end is (by_text 4 w t sink status told (λ e. cc e) four);
        only_write = by_six w t sink status told (chain_not_six end);
        memory = λ seven. chain_memory seen sink end is (by_text 7 w t sink status told (λ e. cc e) seven);
        complete = λ still quiet. if_some (drive.held old)
            (λ c. (found : Found c) (links : List Index) → IsChain c found links → IsOneOf status (0 ∷ 7 ∷ []))
            (λ c held found links chain. by_status (λ n. IsOneOf n (0 ∷ 7 ∷ [])) w t sink status told (chain_whole seen end c is held found links chain still) (λ rose. absurd (quiet rose)));
        looks = looks;
        no_log = none;
        told = (end, is, told);
      }

  no_memory : IsChainEnd (looked drive old new) (untold errors.NoMemory)
  no_memory = (if_some (drive.held old) (RefusesChain errors.NoMemory) (λ c held. tt), tt)

  -- either is told, or that memory was refused for that
  pub chain_or_memory : (end : ChainEnd) → IsChainEnd (looked drive old new) end
      → Looks drive ((26 + 2 * (drive.limits old).cap_ip + 5 * (drive.limits old).cap_dp) * drive.MOST) old new → log ≡ None
      → IsTold (chain_status end) (chain_text end) sink status ⊎ IsTold 7 (codes "memory\n") sink status → DoesGenerations drive old new sink status log
  chain_or_memory end is looks none (inl told) = chain_does end is looks none told
  chain_or_memory end is looks none (inr told) = chain_does (untold errors.NoMemory) no_memory looks none told

-- ---- `view`

view_status_is : (end : ViewEnd) → IsOneOf (end_status end) (0 ∷ 3 ∷ 4 ∷ 6 ∷ 7 ∷ [])
view_status_is (seen l) = inl refl
view_status_is (seen_part l count) = inr (inr (inr (inr (inl refl))))
view_status_is (answered told) = inl refl
view_status_is (unread counts) = inr (inr (inl refl))
view_status_is (unseen e) = among_all (view_status e) (view_known e)

view_not_six : (end : ViewEnd) → end_status end ≡ 6 → ⊥
view_not_six (seen l) six = absurd (cc six)
view_not_six (seen_part l count) six = absurd (cc six)
view_not_six (answered told) six = absurd (cc six)
view_not_six (unread counts) six = absurd (cc six)
view_not_six (unseen e) six = view_isnt e 6 (λ x. cc x) (λ x. cc x) (λ x. cc x) six

module _ (asked : ViewWords) (drive : Looked) (sink : Written) where
  view_printed : (end : ViewEnd) → IsViewEnd asked drive end → (end_status end ≡ 0) × Appends sink.old sink.new (end_text end)
      → IsViewPrinted asked drive.held sink.old sink.new
  view_printed (seen l) is text = inl (is.0, l, is.1, text.1)
  view_printed (seen_part l count) is text = absurd (cc text.0)
  view_printed (answered told) is text = inr (is.0, is.1, told, is.2, text.1)
  view_printed (unread counts) is text = absurd (cc text.0)
  view_printed (unseen e) is text = absurd (view_isnt e 0 (λ x. cc x) (λ x. cc x) (λ x. cc x) text.0)

  view_refused : (end : ViewEnd) → IsViewEnd asked drive end → (end_status end ≡ 3) × Appends sink.old sink.new (end_text end)
      → IsRefusalPrinted drive.held (RefusesView asked.generation) sink.old sink.new
  view_refused (seen l) is text = absurd (cc text.0)
  view_refused (seen_part l count) is text = absurd (cc text.0)
  view_refused (answered told) is text = absurd (cc text.0)
  view_refused (unread counts) is text = absurd (cc text.0)
  view_refused (unseen e) is text = (e, text.0, is.0, text.1)

  view_failed : (end : ViewEnd) → IsViewEnd asked drive end → (end_status end ≡ 4) × Appends sink.old sink.new (end_text end)
      → IsFaultPrinted drive.before drive.now sink.old sink.new
  view_failed (seen l) is text = absurd (cc text.0)
  view_failed (seen_part l count) is text = absurd (cc text.0)
  view_failed (answered told) is text = absurd (cc text.0)
  view_failed (unread counts) is text = (counts, is, text.1)
  view_failed (unseen e) is text = fault_told drive.before drive.now sink.old sink.new (drive_told e drive.before drive.now sink.old sink.new is.1 text)

  view_memory : (end : ViewEnd) → IsViewEnd asked drive end → (end_status end ≡ 7) × Appends sink.old sink.new (end_text end)
      → IsPartSeen asked drive.held sink.old sink.new
  view_memory (seen l) is text = absurd (cc text.0)
  view_memory (seen_part l count) is text = inr (l, is.1, count, text.1)
  view_memory (answered told) is text = absurd (cc text.0)
  view_memory (unread counts) is text = absurd (cc text.0)
  view_memory (unseen e) is text = inl (memory_told e drive.before drive.now sink.old sink.new is.1 text)

view_lacks : (asked : ViewWords) (drive : Looked) (end : ViewEnd) (c : Cartridge) → IsViewEnd asked drive end → drive.held ≡ Some c → HasNoTree asked.generation c
    → IsOneOf (end_status end) (3 ∷ 4 ∷ 6 ∷ 7 ∷ [])
view_lacks asked drive (seen l) c is held none =
    let s = of_some drive.held (λ c. IsSeenOf asked.generation c l) c held is.1.known in absurd (none s.found l.tree s.gen)
view_lacks asked drive (seen_part l count) c is held none = inr (inr (inr (inl refl)))
view_lacks asked drive (answered told) c is held none =
    let s = of_some drive.held (λ c. IsAnswerOf asked.generation is.0 c told) c held is.2 in absurd (none s.found s.tree s.gen)
view_lacks asked drive (unread counts) c is held none = inr (inl refl)
view_lacks asked drive (unseen e) c is held none = among_refused (view_status e) (view_known e)

rise_rose : (before now : ℕ) (counts : Twin) → IsRise before now counts.before counts.after → Rose before now
rise_rose before now counts rise = omega (arith, rise.lowest, rise.rose, rise.highest)

view_whole : (asked : ViewWords) (drive : Looked) (end : ViewEnd) (c : Cartridge) → IsViewEnd asked drive end → drive.held ≡ Some c
    → (found : Found c) (tree : Tree) → GenTree c found asked.generation tree → ¬ (Rose drive.before drive.now) → IsOneOf (end_status end) (0 ∷ 7 ∷ [])
view_whole asked drive (seen l) c is held found tree gen still = inl refl
view_whole asked drive (seen_part l count) c is held found tree gen still = inr (inl refl)
view_whole asked drive (answered told) c is held found tree gen still = inl refl
view_whole asked drive (unread counts) c is held found tree gen still = absurd (still (rise_rose drive.before drive.now counts is))
view_whole asked drive (unseen e) c is held found tree gen still =
    view_done c asked.generation drive.before drive.now e found tree gen (of_some drive.held (RefusesView asked.generation e) c held is.0) is.1 still

module _ {D : Type 0} (asked : ViewWords) (drive : Ghosts D) (old new : D) (sink : Written) (status : ℕ) (log : Option Log) where
  -- so many commands as it is opened, and two for each block
  abbrev pub LooksSo : ℕ → Type 0
  LooksSo blocks = AreBlocksFor asked (drive.held old) blocks × Looks drive ((26 + 2 * (drive.limits old).cap_ip + 5 * (drive.limits old).cap_dp + 2 * blocks) * drive.MOST) old new

  -- how a view came to its end, and what was told of it, are what `view` promises
  pub view_does : (end : ViewEnd) → IsViewEnd asked (looked drive old new) end → (blocks : ℕ) → LooksSo blocks → log ≡ None
      → IsTold (end_status end) (end_text end) sink status → DoesView asked drive old new sink status log
  view_does end is blocks looks none told =
      let saw = looked drive old new in
      let w = end_status end in
      let t = end_text end in record {
        statuses = by_status (λ n. IsOneOf n (0 ∷ 3 ∷ 4 ∷ 6 ∷ 7 ∷ [])) w t sink status told (view_status_is end) (λ rose. inr (inr (inr (inl refl))));
        printed = λ zero. view_printed asked saw sink end is (by_text 0 w t sink status told (λ e. cc e) zero);
        view = if_some (drive.held old) (λ c. HasNoTree asked.generation c → IsOneOf status (3 ∷ 4 ∷ 6 ∷ 7 ∷ []))
            (λ c held lacks. by_status (λ n. IsOneOf n (3 ∷ 4 ∷ 6 ∷ 7 ∷ [])) w t sink status told (view_lacks asked saw end c is held lacks) (λ rose. inr (inr (inl refl))));
        only_view = λ three. view_refused asked saw sink end is (by_text 3 w t sink status told (λ e. cc e) three);
        only_drive = λ four. view_failed asked saw sink end is (by_text 4 w t sink status told (λ e. cc e) four);
        only_write = by_six w t sink status told (view_not_six end);
        memory = λ seven. view_memory asked saw sink end is (by_text 7 w t sink status told (λ e. cc e) seven);
        complete = λ still quiet. if_some (drive.held old)
            (λ c. (found : Found c) (tree : Tree) → GenTree c found asked.generation tree → IsOneOf status (0 ∷ 7 ∷ []))
            (λ c held found tree gen. by_status (λ n. IsOneOf n (0 ∷ 7 ∷ [])) w t sink status told (view_whole asked saw end c is held found tree gen still) (λ rose. absurd (quiet rose)));
        looks = (blocks, looks.0, looks.1);
        no_log = none;
        told = (end, is, told);
      }

  starved : IsViewEnd asked (looked drive old new) (unseen errors.NoMemory)
  starved = (if_some (drive.held old) (RefusesView asked.generation errors.NoMemory) (λ c held. tt), tt)

  -- either is told, or that memory was refused for that
  pub view_or_memory : (end : ViewEnd) → IsViewEnd asked (looked drive old new) end → (blocks : ℕ) → LooksSo blocks → log ≡ None
      → IsTold (end_status end) (end_text end) sink status ⊎ IsTold 7 (codes "memory\n") sink status → DoesView asked drive old new sink status log
  view_or_memory end is blocks looks none (inl told) = view_does end is blocks looks none told
  view_or_memory end is blocks looks none (inr told) = view_does (unseen errors.NoMemory) starved blocks looks none told

-- where none is read
no_blocks_for : (asked : ViewWords) (held : Option Cartridge) → AreBlocksFor asked held 0
no_blocks_for asked held = record { without = λ none. refl; those = λ path is. inl refl; few = omega arith }

-- what a view shows of a cartridge
seen_so : (generation : ℕ) (c : Cartridge) (view : Opened) → view.generation ≡ generation → IsViewOf generation c view → (all : Bool) → IsSeenOf generation c (seen_of all (tape_of c) view)
seen_so generation c view is v all = record { found = v.found; gen = v.gen; k = v.k; older = v.older; stands = v.stands; spot_is = v.spot_is; generation_is = is }

module _ {D : Type 0} (asked : ViewWords) (drive : Ghosts D) (old mid : D) (view : Opened) (generation_is : view.generation ≡ asked.generation)
    (found : (c : Cartridge) → drive.held old ≡ Some c → IsViewOf asked.generation c view)
    (looks : Looks drive ((26 + 2 * (drive.limits old).cap_ip + 5 * (drive.limits old).cap_dp) * drive.MOST) old mid) where
  -- a listing of a view is told, of what the drive told where it did
  tape_told : (held : Option Cartridge) (sink : Written) (status : ℕ) → ((c : Cartridge) → held ≡ Some c → IsViewOf asked.generation c view) → IsSeenTold asked.all view sink status
      → (l : Listing) × IsSeenFor asked held l × IsListingTold l sink status
  tape_told None sink status is told = (seen_of asked.all whole view, record { told = refl; known = tt }, told whole)
  tape_told (Some c) sink status is told = (
    seen_of asked.all (tape_of c) view,
    record { told = refl; known = seen_so asked.generation c view generation_is (is c refl) asked.all },
    told (tape_of c),
  )

  no_blocks : Looks drive ((26 + 2 * (drive.limits old).cap_ip + 5 * (drive.limits old).cap_dp + 2 * 0) * drive.MOST) old mid
  no_blocks = subst (λ (n : ℕ). Looks drive (n * drive.MOST) old mid) (more (26 + 2 * (drive.limits old).cap_ip + 5 * (drive.limits old).cap_dp)) looks
    where
      more : (n : ℕ) → n ≡ n + 2 * 0
      more n = omega arith

  -- a listing of a generation that was told is what `view` promises
  pub view_listed : (new : D) (sink : Written) (status : ℕ) (log : Option Log) → new ≡ mid → log ≡ None → asked.path ≡ None → IsSeenTold asked.all view sink status
      → DoesView asked drive old new sink status log
  view_listed new sink status log same none path told = subst (λ d. DoesView asked drive old d sink status log) (sym same) (by (tape_told (drive.held old) sink status found told))
    where
      by_end : (l : Listing) → IsSeenFor asked (drive.held old) l → IsListingTold l sink status → DoesView asked drive old mid sink status log
      by_end l is (inl all) = view_does asked drive old mid sink status log (seen l) (path, is) 0 (no_blocks_for asked (drive.held old), no_blocks) none all
      by_end l is (inr part) = view_does asked drive old mid sink status log (seen_part l part.0) (path, is) 0 (no_blocks_for asked (drive.held old), no_blocks) none part.1

      by : (l : Listing) × IsSeenFor asked (drive.held old) l × IsListingTold l sink status → DoesView asked drive old mid sink status log
      by all = by_end all.0 all.1 all.2

  joined : (m n most : ℕ) → m * most + 2 * n * most ≡ (m + 2 * n) * most
  joined m n most = omega arith

  -- the reply to a read through a view is told
  pub view_answered : (path : Path) (new : D) (sink : Written) (status : ℕ) (log : Option Log) → asked.path ≡ Some path → drive.faults old ≤ drive.faults mid
      → length (blocks_read view.tree path 0 1048576) ≤ 1048576 → IsReadTold drive view path mid new sink status log → DoesView asked drive old new sink status log
  view_answered path new sink status log asks later few read = by read.told
    where
      blocks : ℕ
      blocks = length (blocks_read view.tree path 0 1048576)

      both : Looks drive ((26 + 2 * (drive.limits old).cap_ip + 5 * (drive.limits old).cap_dp + 2 * blocks) * drive.MOST) old new
      both = subst (λ (most : ℕ). Looks drive most old new) (joined (26 + 2 * (drive.limits old).cap_ip + 5 * (drive.limits old).cap_dp) blocks drive.MOST)
          (then_looks drive ((26 + 2 * (drive.limits old).cap_ip + 5 * (drive.limits old).cap_dp) * drive.MOST) (2 * blocks * drive.MOST) old mid new looks read.looks)

      are_blocks : AreBlocksFor asked (drive.held old) blocks
      are_blocks = record {
        without = λ none. absurd (none_or (sym none ∙ asks));
        those = λ other is. inr (if_some (drive.held old) (λ c. AreBlocksAt asked.generation other c blocks) (there other (is_path other (sym asks ∙ is))));
        few = few;
      }
        where
          none_or : ◌≡◌ {A = Option Path} None (Some path) → ⊥
          none_or e = cc e

          is_path : (other : Path) → ◌≡◌ {A = Option Path} (Some path) (Some other) → path ≡ other
          is_path other e = cc e

          there : (other : Path) → path ≡ other → (c : Cartridge) → drive.held old ≡ Some c → AreBlocksAt asked.generation other c blocks
          there other same c held =
              let v = found c held in
              (v.found, plain_of (tape_of c) view.tree, v.gen, ap (λ p. length (blocks_read view.tree p 0 1048576)) same ∙ ap (λ t. length (blocks_read t other 0 1048576)) (sym v.made))

      answer_so : (told : Answer) → ((c : Cartridge) → drive.held mid ≡ Some c → told ≡ answer (plain_of (tape_of c) view.tree) (Read path 0 1048576))
          → (c : Cartridge) → drive.held old ≡ Some c → IsAnswerOf asked.generation path c told
      answer_so told is c held =
          let v = found c held in
          record { found = v.found; tree = plain_of (tape_of c) view.tree; gen = v.gen; answer_is = is c (looks.held ∙ held) }

      since : (counts : Twin) → IsRise (drive.faults mid) (drive.faults new) counts.before counts.after → IsRise (drive.faults old) (drive.faults new) counts.before counts.after
      since counts rise = record { lowest = omega (arith, later, rise.lowest); rose = rise.rose; highest = rise.highest }

      by : IsReplyTold drive view path mid new sink status → DoesView asked drive old new sink status log
      by (inl (told, is, text)) = view_or_memory asked drive old new sink status log (answered told)
          (path, asks, if_some (drive.held old) (λ c. IsAnswerOf asked.generation path c told) (answer_so told is)) blocks (are_blocks, both) read.no_log text
      by (inr (inl (counts, rise, text))) = view_or_memory asked drive old new sink status log (unread counts) (since counts rise) blocks (are_blocks, both) read.no_log text
      by (inr (inr text)) = view_or_memory asked drive old new sink status log (unseen errors.NoMemory)
          (if_some (drive.held old) (RefusesView asked.generation errors.NoMemory) (λ c held. tt), tt) blocks (are_blocks, both) read.no_log (inr text)

-- ---- a read

-- what is known of a read that is refused
abbrev pub Reads : {D : Type 0} → Ghosts D → Opened → Path → (old mid : D) → ReadErr → Type 0
Reads drive view path old mid e =
    IsReadBy drive (length (blocks_read view.tree path 0 1048576)) (λ c. answer (plain_of (tape_of c) view.tree) (Read path 0 1048576)) old mid (Err e)

module _ {D : Type 0} (drive : Ghosts D) (view : Opened) (path : Path) (old mid new : D) (sink : Written) (status : ℕ) (log : Option Log) (same : new ≡ mid) (none : log ≡ None) where
  -- a read that was answered and told is what a read of a view promises
  pub read_answered : (told : Answer)
      → IsReadBy drive (length (blocks_read view.tree path 0 1048576)) (λ c. answer (plain_of (tape_of c) view.tree) (Read path 0 1048576)) old mid (Ok told)
      → IsTold 0 (answer_line told) sink status ⊎ IsTold 7 (codes "memory\n") sink status → IsReadTold drive view path old new sink status log
  read_answered told read text = subst (λ d. IsReadTold drive view path old d sink status log) (sym same)
      (record { told = inl (told, read.answer, text); later = read.later; looks = read.looks; no_log = none })

  -- a read at which the drive failed, and that was told, is what a read of a view promises
  pub read_failed : (counts : Twin) → Reads drive view path old mid (read_errors.Drive counts)
      → IsTold 4 (mount_text (mounts.Drive counts)) sink status ⊎ IsTold 7 (codes "memory\n") sink status → IsReadTold drive view path old new sink status log
  read_failed counts read text = subst (λ d. IsReadTold drive view path old d sink status log) (sym same)
      (record {
        told = inr (inl (counts, record { lowest = omega (arith, read.counts.0); rose = subst (λ n. Rose n counts.after) (sym read.counts.0) (subst (λ n. Rose (drive.faults old) n) (sym read.counts.1) read.counts.2); highest = omega (arith, read.counts.1) }, text));
        later = read.later;
        looks = read.looks;
        no_log = none;
      })

  -- a read for which there was no memory is told as such
  pub read_starved : (e : ReadErr) → Reads drive view path old mid e → IsTold 7 (codes "memory\n") sink status → IsReadTold drive view path old new sink status log
  read_starved e read text = subst (λ d. IsReadTold drive view path old d sink status log) (sym same)
      (record { told = inr (inr text); later = read.later; looks = read.looks; no_log = none })

-- there is no view
module _ {D : Type 0} (asked : ViewWords) (drive : Ghosts D) (old mid new : D) (sink : Written) (status : ℕ) (log : Option Log) where
  -- where there is no view, `view` tells what it promises
  pub view_unseen : (e : ViewErr) → new ≡ mid → log ≡ None → ((c : Cartridge) → drive.held old ≡ Some c → RefusesView asked.generation e c)
      → AreCounts (drive.faults old) (drive.faults mid) e
      → Looks drive ((26 + 2 * (drive.limits old).cap_ip + 5 * (drive.limits old).cap_dp) * drive.MOST) old mid
      → (wanted : ℕ) → wanted ≡ view_status e → IsTold wanted (view_text e) sink status ⊎ IsTold 7 (codes "memory\n") sink status
      → DoesView asked drive old new sink status log
  view_unseen e same none is counts looks wanted status_is told = subst (λ d. DoesView asked drive old d sink status log) (sym same)
      (view_or_memory asked drive old mid sink status log (unseen e) (if_some (drive.held old) (RefusesView asked.generation e) is, counts) 0
      (no_blocks_for asked (drive.held old), no_more (26 + 2 * (drive.limits old).cap_ip + 5 * (drive.limits old).cap_dp) looks) none
      (subst (λ w. IsTold w (view_text e) sink status ⊎ IsTold 7 (codes "memory\n") sink status) status_is told))
    where
      no_more : (n : ℕ) → Looks drive (n * drive.MOST) old mid → Looks drive ((n + 2 * 0) * drive.MOST) old mid
      no_more n is = let more : n ≡ n + 2 * 0 = omega arith in subst (λ (m : ℕ). Looks drive (m * drive.MOST) old mid) more is

-- the chain is told, or why there is none
module _ {D : Type 0} (drive : Ghosts D) (old mid new : D) (sink : Written) (status : ℕ) (log : Option Log) where
  -- a chain that was told is what `generations` promises
  pub chain_told : (told : List Generation) → new ≡ mid → log ≡ None → ((c : Cartridge) → drive.held old ≡ Some c → TellsChain told c)
      → Looks drive ((26 + 2 * (drive.limits old).cap_ip + 5 * (drive.limits old).cap_dp) * drive.MOST) old mid
      → IsTold 0 (generations_text told) sink status ⊎ IsTold 7 (codes "memory\n") sink status → DoesGenerations drive old new sink status log
  chain_told told same none is looks text = subst (λ d. DoesGenerations drive old d sink status log) (sym same)
      (chain_or_memory drive old mid sink status log (all_told told) (if_some (drive.held old) (TellsChain told) is) looks none text)

  -- where no chain is told, `generations` tells what it promises
  pub chain_untold : (e : ViewErr) → new ≡ mid → log ≡ None → ((c : Cartridge) → drive.held old ≡ Some c → RefusesChain e c)
      → AreCounts (drive.faults old) (drive.faults mid) e
      → Looks drive ((26 + 2 * (drive.limits old).cap_ip + 5 * (drive.limits old).cap_dp) * drive.MOST) old mid
      → (wanted : ℕ) → wanted ≡ view_status e → IsTold wanted (view_text e) sink status ⊎ IsTold 7 (codes "memory\n") sink status
      → DoesGenerations drive old new sink status log
  chain_untold e same none is counts looks wanted status_is told = subst (λ d. DoesGenerations drive old d sink status log) (sym same)
      (chain_or_memory drive old mid sink status log (untold e) (if_some (drive.held old) (RefusesChain e) is, counts) looks none
      (subst (λ w. IsTold w (view_text e) sink status ⊎ IsTold 7 (codes "memory\n") sink status) status_is told))
