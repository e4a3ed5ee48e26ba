-- A cartridge that is fine after a crash stands for a tree of the history, and is sound.
use Rattle.promises.specs.ServingPromise.Meanings.{FineCartridgesStand}

-- a cartridge that is fine after a crash stands for a tree of the history, and is sound
pub fine_cartridges_stand : FineCartridgesStand
fine_cartridges_stand v t from c f = (
  record { count = f.place; not_before = f.low; not_after = f.high; generation = f.generation; stands = f.stands },
  record { one_index = f.one; honest = f.honest },
)
