-- What the code's values stand for, and what a call may answer where reading gives a value or a refusal.
use Rattle.std.specs.Prelude.{◌≡◌, ◌<◌, ℕ, true, Result, Ok, Err}
use Rattle.tape_types.specs.Bounds.{most_nodes}
use Rattle.tape_types.specs.Times.{civil_of}
use Rattle.ltfs_documents.specs.declared.doc_elements.errors.PieceErr.{PieceErr}
use Rattle.ltfs_documents.specs.declared.doc_elements.errors.PieceErr.TheVariants as errors
use Rattle.ltfs_documents.specs.DocElements.Schema.{is_node}
use Rattle.ltfs_documents.specs.DocElements.Pieces.{Val, words, time, uuid, letter, number, truth, lock, bytes, Piece as Told, opens}
use Rattle.ltfs_documents.specs.DocElements.Pieces.{whole, closes, leaf}
use Rattle.ltfs_documents.specs.declared.doc_elements.pieces.Piece.{Piece}
use Rattle.ltfs_documents.specs.declared.doc_elements.pieces.Piece.TheVariants as code_pieces
use Rattle.ltfs_documents.specs.declared.doc_elements.values.Value.{Value}
use Rattle.ltfs_documents.specs.declared.doc_elements.values.Value.TheVariants as code

abbrev pub val_of : Value → Val
val_of (code.Text text) = words text
val_of (code.Time moment) = time (civil_of moment)
val_of (code.Uuid n) = uuid n
val_of (code.Letter byte) = letter byte
val_of (code.Number n) = number n
val_of (code.Truth is) = truth is
val_of (code.Lock state) = lock state
val_of (code.Bytes bs) = bytes bs

abbrev pub piece_of : Piece → Told
piece_of (code_pieces.Opens p) = opens p
piece_of (code_pieces.Whole p) = whole p
piece_of code_pieces.Closes = closes
piece_of (code_pieces.Leaf tag v) = leaf tag (val_of v)

-- there are fewer nodes than there may be, where a piece begins one
abbrev pub HasRoom : Piece → ℕ → Type 0
HasRoom (code_pieces.Opens p) nodes = is_node p ≡ true → nodes < most_nodes
HasRoom (code_pieces.Whole p) nodes = is_node p ≡ true → nodes < most_nodes
HasRoom code_pieces.Closes nodes = Unit {0}
HasRoom (code_pieces.Leaf tag v) nodes = Unit {0}

-- a refusal is the one that reading gives, unless memory was refused
abbrev pub Fails : {B : Type 0} → PieceErr → Result B PieceErr → Type 0
Fails errors.NoMemory read = Unit {0}
Fails e read = read ≡ Err e

-- what a call answered, seen by a view, is what reading gives; or memory was refused
abbrev pub Gives : {A B : Type 0} → (A → B) → Result A PieceErr → Result B PieceErr → Type 0
Gives view (Ok x) read = read ≡ Ok (view x)
Gives view (Err e) read = Fails e read

-- what a refusal claims, unless memory was refused
abbrev pub UnlessMemory : PieceErr → Type 0 → Type 0
UnlessMemory errors.NoMemory P = Unit {0}
UnlessMemory _ P = P
