use Rattle.std.proofs.Common.{[], codes, ◌∷◌}
use Rattle.tape_types.specs.Times.{time_text}
use Rattle.commands.proofs.CommandLine.LawLemmas.{apart_is_form, joined_is_form, none_is_form, takes_bare}
use Rattle.commands.proofs.CommandLine.ListLemmas.{list_all, list_alone}
use Rattle.commands.proofs.CommandLine.MakeLaws.{make_alone, make_apart, make_joined}
use Rattle.commands.proofs.command_line.laws.words_are_forms.Goals as goal

pub returns-clause-plain : goal.returns-clause-plain
returns-clause-plain c = λ words is. ([], is, none_is_form _)

pub returns-clause-apart : goal.returns-clause-apart
returns-clause-apart c = λ words at since is. (codes "--at" ∷ time_text at ∷ [], is, apart_is_form _ at since)

pub returns-clause-joined : goal.returns-clause-joined
returns-clause-joined c = λ words at since is. (_, is, joined_is_form _ at since)

pub returns-clause-label : goal.returns-clause-label
returns-clause-label c = λ words folder is. (folder, [], is, takes_bare _)

pub returns-clause-list : goal.returns-clause-list
returns-clause-list c = λ words folder is. (folder, [], is, list_alone)

pub returns-clause-list_all : goal.returns-clause-list_all
returns-clause-list_all c = λ words folder is. (folder, codes "--all" ∷ [], is, list_all)

pub returns-clause-generations : goal.returns-clause-generations
returns-clause-generations c = λ words folder is. (folder, [], is, takes_bare _)

pub returns-clause-serve : goal.returns-clause-serve
returns-clause-serve c = λ words folder is. (folder, [], is, none_is_form _)

pub returns-clause-serve_apart : goal.returns-clause-serve_apart
returns-clause-serve_apart c = λ words folder at since is. (folder, codes "--at" ∷ time_text at ∷ [], is, apart_is_form _ at since)

pub returns-clause-serve_joined : goal.returns-clause-serve_joined
returns-clause-serve_joined c = λ words folder at since is. (folder, _, is, joined_is_form _ at since)

pub returns-clause-make : goal.returns-clause-make
returns-clause-make c = λ words folder number count told is. (folder, number ∷ [], is, make_alone number count told)

pub returns-clause-make_apart : goal.returns-clause-make_apart
returns-clause-make_apart c = λ words folder number count at told since is. (folder, codes "--at" ∷ time_text at ∷ number ∷ [], is, make_apart number count told at since)

pub returns-clause-make_joined : goal.returns-clause-make_joined
returns-clause-make_joined c = λ words folder number count at told since is. (folder, number ∷ _ ∷ [], is, make_joined number count told at since)
