-- Plans that go on, and what stands once a close is done.
use Rattle.std.specs.Prelude.{ℕ, ◌+◌, ◌≤◌, ◌≡◌, false, List, ◌++◌, Some, None}
use Rattle.plain_tree.specs.Tree.{Tree}
use Rattle.tape_types.specs.declared.cartridges.Cartridge.{Cartridge}
use Rattle.tape_types.specs.declared.cartridges.Item.{Item}
use Rattle.tape_types.specs.declared.cartridges.Part.TheVariants.{Ip, Dp}
use Rattle.coherency.specs.declared.Coherency.{Coherency}
use Rattle.index_model.specs.declared.indexes.Index.{Index}
use Rattle.content_laws.specs.Ends.{EndsWithLast}
use Rattle.cartridge_meaning.specs.Carried.{Carried, carried}
use Rattle.cartridge_meaning.specs.Meaning.{AreAlike, IsConsistent, IsTreeOf, Stands}
use Rattle.cartridge_meaning.specs.Notes.{AreNoted, IsCoherent, TellsOfLast}
use Rattle.cartridge_meaning.specs.Pointers.{indexes_of, last_block, letter_of}
use Rattle.cartridge_meaning.specs.declared.labels.Labels.{Labels}
use Rattle.space_laws.specs.Space.{Rules, Space}
use Rattle.promises.specs.ImageLaws.Images.{AreSafe, IsGrounded, IsImage, IsSound}
use Rattle.promises.specs.ImageLaws.Made.{Base, Job, Made, Trees, Volume, after, cartridge_of}
use Rattle.promises.specs.ImageLaws.Plans.{IsCloseDue, IsPlanned, close_jobs}

-- what the second plans begins with what the first plans
pub record IsLonger (plan longer : Cartridge) : Type 0 where
  pub more_ip : List Item
  pub ip : longer.ip ≡ plan.ip ++ more_ip
  pub more_dp : List Item
  pub dp : longer.dp ≡ plan.dp ++ more_dp

-- What is so of a plan stays so as it goes on, and jobs that may be done are done one after the other.
pub record PlansGoOn (v : Volume) (t : Trees) : Type 0 where
  pub images : (plan longer : Cartridge) (b : Base) (c : Cartridge) → IsLonger plan longer → IsGrounded v t plan b
      → IsImage v t plan b c → IsImage v t longer b c
  pub grounded : (plan longer : Cartridge) (b : Base) → IsLonger plan longer → IsGrounded v t plan b
      → IsGrounded v t longer b
  pub sound : (plan longer : Cartridge) (s : Made) → IsLonger plan longer → IsSound v t plan s → IsSound v t longer s
  pub safe : (plan longer : Cartridge) (jobs : List Job) (s : Made) → IsLonger plan longer → AreSafe v t plan s jobs
      → AreSafe v t longer s jobs
  pub joined : (plan : Cartridge) (jobs more : List Job) (s : Made) → AreSafe v t plan s jobs
      → AreSafe v t plan (after s jobs) more → AreSafe v t plan s (jobs ++ more)
  pub behind : (plan : Cartridge) (jobs : List Job) (s : Made) → IsSound v t plan s → AreSafe v t plan s jobs
      → IsSound v t plan (after s jobs)
  pub append : (jobs : List Job) (s : Made) → IsLonger (cartridge_of s) (cartridge_of (after s jobs))
  pub parts : (jobs more : List Job) (s : Made) → after s (jobs ++ more) ≡ after (after s jobs) more

-- A cartridge that ends with a close's index, whatever stands before that, stands for the tree of its data partition's
-- last index. It is consistent where the data partition ends with that index, tells the same on both partitions where
-- both indexes tell one tree, and is coherent with its notes, which may tell of these two indexes.
pub record CloseStands (c : Cartridge) (l : Labels) (last index : Index) : Type 0 where
  pub stands : (facts : Carried) (tree : Tree) → facts ≡ carried last → IsTreeOf l.ip c last tree
      → Stands c facts tree last.generation
  pub consistent : EndsWithLast c.dp (indexes_of c.dp) → IsConsistent c
  pub alike : (facts : Carried) (tree : Tree) → facts ≡ carried index → facts ≡ carried last
      → IsTreeOf l.ip c index tree → IsTreeOf l.ip c last tree → AreAlike c facts tree last.generation
  pub ip_note : (note : Coherency) → note.generation ≡ index.generation
      → index.here ≡ record { letter = letter_of l.ip Ip; block = note.block } → TellsOfLast c l.ip Ip note
  pub dp_note : (note : Coherency) → note.generation ≡ last.generation → last_block (indexes_of c.dp) ≡ Some note.block
      → TellsOfLast c l.ip Dp note
  pub coherent : AreNoted c l.ip → IsCoherent c

-- What a close asks of the state before its index, and of the drive once all its jobs are done: the partitions end
-- where they were made to.
pub record IsCloseDone (v : Volume) (t : Trees) (s made : Made) (space : Space) (rules : Rules) (text : List ℕ)
    (index : Index) (held : Cartridge) : Type 0 where
  pub planned : IsPlanned t s space
  pub due : IsCloseDue v t s space text index
  pub none_ahead : s.base.ahead ≡ None
  pub unchanged : space.changed ≡ false
  pub size : 1 ≤ rules.block_size
  pub made_is : made ≡ after s (close_jobs rules space text)
  pub ip : held.ip ≡ made.ip
  pub dp : held.dp ≡ made.dp

-- Then the cartridge stands for the tree of the whole history, is consistent and tells the same on both partitions. Its
-- notes may tell of both indexes, by the blocks that were planned for them, and with both it is coherent.
pub record StandsClosed (v : Volume) (t : Trees) (space : Space) (held : Cartridge) : Type 0 where
  pub stands : Stands held v.facts (t.nth t.count) space.newest
  pub consistent : IsConsistent held
  pub alike : AreAlike held v.facts (t.nth t.count) space.newest
  pub ip_note : (note : Coherency) → note.generation ≡ space.newest → note.block ≡ space.ends.ip + 1
      → TellsOfLast held v.labels.ip Ip note
  pub dp_note : (note : Coherency) → note.generation ≡ space.newest → space.last_dp ≡ Some note.block
      → TellsOfLast held v.labels.ip Dp note
  pub coherent : AreNoted held v.labels.ip → IsCoherent held
