-- A clock that gives one moment, where there is one.
use Rattle.std.specs.Prelude.{Option, Some, None}
use Rattle.tape_types.specs.declared.moments.Moment.{Moment}

-- the one that is given, or else the clock's one moment, where it has one
abbrev pub one_moment : Option Moment → Option Moment → Option Moment
one_moment (Some at) one = Some at
one_moment None one = one

-- a clock that gives this moment, where there is one
pub record TimedView (C : Type 0) : Type 0 where
  pub at : Option Moment
  pub clock : C
