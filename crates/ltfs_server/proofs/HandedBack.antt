-- What is told where a command had the sink lent, and how the run ends with the sink.
use Rattle.std.proofs.Common.{◌≡◌, ℕ, List, Option, String, sym, subst}
use Rattle.std.specs.Global.{Global}
use Rattle.tape_types.specs.declared.moments.Moment.{Moment}
use Rattle.session_script.specs.declared.logs.Log.{Log}
use Rattle.tape_drive.specs.declared.drive.Drive.{Ghosts}
use Rattle.tape_edge.specs.declared.traits.Sink as sinks
use Rattle.commands.specs.BasicCommands.Runs.{Gives, Taken, Written, written}
use Rattle.commands.specs.declared.basic_commands.ended.Ended.{Ended as Told}
use Rattle.ltfs_server.specs.Promises.{DoesAsked}
use Rattle.ltfs_server.specs.declared.ended.Ended.{Ended}

-- of a sink from where it was handed in to where it is handed back
pub handed : {K : Type 0} (sink : sinks.Ghosts K) (P : Written → ℕ → Type 0) (first out last back : K) (told status : ℕ)
    → first ≡ out → back ≡ last → status ≡ told → P (written sink first last) told → P (written sink out back) status
handed {K} sink P first out last back told status from to same p =
    subst (λ (e : K × K × ℕ). P (written sink e.0 e.1) e.2) (λ i. (from i, sym to i, sym same i)) p

-- what is promised for all words
pub asked_back : {D K : Type 0} (words : List (String Global)) (gives : Gives) (one : Option Moment) (source : Taken)
    (sink : sinks.Ghosts K) (drive : Ghosts D) (old : D) (out last : K) (told : Told D) (ended : Ended D K)
    → ended.status ≡ told.status → ended.drive ≡ told.drive → ended.out ≡ last → ended.log ≡ told.log
    → DoesAsked words gives one source (written sink out last) drive old told.drive told.status told.log
    → DoesAsked words gives one source (written sink out ended.out) drive old ended.drive ended.status ended.log
asked_back {D} {K} words gives one source sink drive old out last told ended status_is drive_is out_is log_is does =
    subst
    (λ (e : D × K × ℕ × Option Log).
    DoesAsked words gives one source (written sink out e.1) drive old e.0 e.2 e.3)
    (λ i. (sym drive_is i, sym out_is i, sym status_is i, sym log_is i)) does
