-- What is told of generations, as text.
use Rattle.std.specs.Prelude.{ℕ, List, ◌++◌, length, codes, decimal}
use Rattle.std.specs.List.{flat_map}
use Rattle.tape_types.specs.Times.{time_text}
use Rattle.index_model.specs.Telling.{refusal_text}
use Rattle.plain_tree.specs.declared.calls.Answer.{Answer}
use Rattle.session_script.specs.LogText.{answer_text}
use Rattle.cartridge_meaning.specs.declared.errors.MountErr.TheVariants as mounts
use Rattle.generation_view.specs.declared.errors.BreakWhy.{BreakWhy}
use Rattle.generation_view.specs.declared.errors.BreakWhy.TheVariants as breaks
use Rattle.generation_view.specs.declared.errors.ViewErr.{ViewErr}
use Rattle.generation_view.specs.declared.errors.ViewErr.TheVariants as errors
use Rattle.generation_view.specs.declared.telling.Generation.{Generation}
use Rattle.commands.specs.BasicCommands.Labels.{mount_status, mount_text}

-- `g NUMBER BLOCK `
abbrev pub generation_words : (number block : ℕ) → List ℕ
generation_words number block = codes "g " ++ (decimal number ++ (codes " " ++ (decimal block ++ codes " ")))

-- `g NUMBER BLOCK TIME NODES`
abbrev pub generation_line : Generation → List ℕ
generation_line g =
    generation_words g.number g.block ++ time_text g.updated ++ (codes " " ++ (decimal g.nodes ++ codes "\n"))

-- a line for each generation, and `generations COUNT`
abbrev pub generations_text : List Generation → List ℕ
generations_text told =
    flat_map generation_line told ++ (codes "generations " ++ (decimal (length told) ++ codes "\n"))

-- the name of the first test that an index fails, and a text's refusal or a file's UID
abbrev pub why_text : BreakWhy → List ℕ
why_text (breaks.Text refusal) = codes "Text " ++ refusal_text refusal
why_text breaks.Volume = codes "Volume"
why_text breaks.Pointer = codes "Pointer"
why_text breaks.Rises = codes "Rises"
why_text (breaks.Extent uid) = codes "Extent " ++ decimal uid

-- `volume Broken BLOCK `
abbrev pub broken_words : ℕ → List ℕ
broken_words pos = codes "volume Broken " ++ (decimal pos ++ codes " ")

-- the line of what is wrong with a cartridge or its chain, of a generation that isn't there, of a drive that failed, and
-- of memory that was refused
abbrev pub view_text : ViewErr → List ℕ
view_text (errors.Mount e) = mount_text e
view_text (errors.Broken place why) = broken_words place.pos ++ why_text why ++ codes "\n"
view_text (errors.NoGeneration number) = codes "volume NoGeneration " ++ (decimal number ++ codes "\n")
view_text (errors.Drive counts) = mount_text (mounts.Drive counts)
view_text errors.NoMemory = codes "memory\n"

-- 3 for what is wrong with a cartridge or its chain, or isn't there, 4 for a drive that failed, 7 for want of memory
abbrev pub view_status : ViewErr → ℕ
view_status (errors.Mount e) = mount_status e
view_status (errors.Broken place why) = 3
view_status (errors.NoGeneration number) = 3
view_status (errors.Drive counts) = 4
view_status errors.NoMemory = 7

-- the reply to a read, as a line
abbrev pub answer_line : Answer → List ℕ
answer_line answer = answer_text answer ++ codes "\n"
