-- Ways of a drive along worked runs, and ways that are wrong in one respect.
use Rattle.std.specs.Prelude.{◌≡◌, ◌+◌, ◌≤◌, ◌^◌, ◌-◌, min, ℕ, List, [], ◌∷◌, filter_map, get_or, length, map}
use Rattle.std.proofs.Common.{refl, sym, ap, ◌∙◌, arith}
use Rattle.tape_drive.specs.declared.drive.Drive.{Ghosts}
use Rattle.session_script.specs.declared.logs.Ack.{Ack}
use Rattle.head_queue.specs.EventLaws.Rows.{one_sync, two_faults}
use Rattle.head_queue.specs.EventLaws.Trail.{fault_of, steps}
use Rattle.head_queue.specs.EventLaws.Waiting.{start}
use Rattle.run_laws.specs.LogLaws.Acts.{commands_in, numbered}
use Rattle.run_laws.specs.LogLaws.Laws.{IsLowWay, WrongWaysAreNone, ack}
use Rattle.run_laws.proofs.LogLaws.Gone.{acks_are_exact, steps_take_commands}

-- the numbers of the commands of acks
abbrev numbers : List Ack → List ℕ
numbers acks = map (λ a. a.command) acks

-- four items of two commands each, and a flush
at_ninth : (n : ℕ) → get_or (numbers (numbered start n one_sync)) 0 0
    ≡ n + 0 + 0 + 0 + 0 + 0 + 0 + 2 + 2 + 2 + 2 + 1
at_ninth n = refl

module _ {D : Type 0} (drive : Ghosts D) (first last : D) (acks : List Ack)
    (way : IsLowWay drive first one_sync acks last) where
  exact : (acks ≡ numbered start (drive.commands first) one_sync)
      × (drive.commands last ≡ drive.commands first + commands_in start one_sync)
  exact = acks_are_exact drive first last way.history one_sync acks way.gone way.one refl way.low

  one_ack : get_or (numbers acks) 0 0 ≡ drive.commands first + 9
  one_ack = ap (λ (xs : List Ack). get_or (numbers xs) 0 0) exact.0
      ∙ omega (arith, at_ninth (drive.commands first))

  just_one : length acks ≡ 1
  just_one = ap (λ (xs : List Ack). length xs) exact.0

  commands : drive.commands last ≡ drive.commands first + 11
  commands = omega (arith, exact.1)

-- a way with a wrong acknowledgement, count or fault is none of the worked runs'
pub wrong_ways_are_none : {D : Type 0} (drive : Ghosts D) → WrongWaysAreNone drive
wrong_ways_are_none drive = record {
  acknowledged = λ first last command way. one_ack drive first last (ack 2 command) way;
  late_isnt = λ first last way.
      omega (arith, one_ack drive first last (ack 2 (drive.commands first + 10)) way);
  early_isnt = λ first last way.
      omega (arith, one_ack drive first last (ack 2 (drive.commands first + 8)) way);
  missing_isnt = λ first last way. omega (arith, just_one drive first last [] way);
  retried_isnt = λ first last acks way more. omega (arith, commands drive first last acks way, more);
  told_twice_isnt = λ first last acks way few.
      omega (arith, steps_take_commands drive first last way.history two_faults acks way.gone, few, way.low);
}
