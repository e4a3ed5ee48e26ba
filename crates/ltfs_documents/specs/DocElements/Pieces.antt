-- The piece of a document that follows: an end tag of the innermost open parent, a start tag of a parent, or a whole
-- leaf.
use Rattle.std.specs.Prelude.{ℕ, ◌+◌, ◌^◌, List, [], Bool, true, false, Option, Some, None, Result, Ok, Err, length}
use Rattle.std.specs.Prelude.{nat_le, nat_lt, not, filter, ◌==◌, ◌&&◌, if◌then◌else◌}
use Rattle.std.specs.List.{list_any}
use Rattle.std.specs.Str.{chars, is_utf8}
use Rattle.base64.specs.Engines.{standard}
use Rattle.base64.specs.GeneralPurpose.{decoded_of}
use Rattle.tape_types.specs.Bounds.{longest_name, most_nodes}
use Rattle.tape_types.specs.declared.times.Civil.{Civil}
use Rattle.tape_types.specs.Names.{has_byte, is_dot}
use Rattle.ltfs_documents.specs.declared.doc_fields.errors.Why.{Why}
use Rattle.ltfs_documents.specs.declared.doc_fields.errors.Why.TheVariants as why
use Rattle.ltfs_documents.specs.declared.doc_fields.starts.Attribute.{Attribute}
use Rattle.ltfs_documents.specs.declared.doc_fields.starts.Attribute.TheVariants as attribute
use Rattle.ltfs_documents.specs.declared.doc_fields.starts.Start.{Start}
use Rattle.ltfs_documents.specs.declared.doc_fields.tags.Tag.{Tag}
use Rattle.ltfs_documents.specs.declared.doc_fields.values.LockState.{LockState}
use Rattle.ltfs_documents.specs.DocFields.Reading.{Read, byte}
use Rattle.ltfs_documents.specs.DocFields.Space.{is_space, space_end}
use Rattle.ltfs_documents.specs.DocFields.Numbers.{number_at}
use Rattle.ltfs_documents.specs.DocFields.Texts.{text_at}
use Rattle.ltfs_documents.specs.DocFields.Values.{bool_at, letter_at, lock_at, time_at, uuid_at}
use Rattle.ltfs_documents.specs.DocFields.StartTag.{named_at, rest_at}
use Rattle.ltfs_documents.specs.DocFields.EndTag.{end_at}
use Rattle.ltfs_documents.specs.DocElements.Children.{member, first_missing}
use Rattle.ltfs_documents.specs.LtfsText.Names.{decoded}
use Rattle.tape_types.specs.NodeKeys.Keys.{is_key}
use Rattle.ltfs_documents.specs.declared.doc_elements.errors.PieceErr.{PieceErr}
use Rattle.ltfs_documents.specs.declared.doc_elements.errors.PieceErr.TheVariants as errors
use Rattle.ltfs_documents.specs.declared.doc_elements.schema.Container.{Container}
use Rattle.ltfs_documents.specs.declared.doc_elements.schema.Form.{Form}
use Rattle.ltfs_documents.specs.declared.doc_elements.schema.Form.TheVariants as form
use Rattle.ltfs_documents.specs.declared.doc_elements.schema.Child.{Child}
use Rattle.ltfs_documents.specs.declared.doc_elements.schema.Child.TheVariants as child
use Rattle.ltfs_documents.specs.DocElements.Schema.{rule, required, tag_of, may_repeat, excludes, is_node}

-- the value of a leaf
pub data Val : Type 0 where
  words : List ℕ → Val
  time : Civil → Val
  uuid : ℕ → Val
  letter : ℕ → Val
  number : ℕ → Val
  truth : Bool → Val
  lock : LockState → Val
  bytes : List ℕ → Val

pub data Piece : Type 0 where
  opens : Container → Piece
  whole : Container → Piece
  closes : Piece
  leaf : Tag → Val → Piece

-- an open parent, and the children that stood in it, the last one first
pub record Frame : Type 0 where
  pub place : Container
  pub seen : List Tag

infixl 10 ◌>>=◌
abbrev pub ◌>>=◌ : {A B : Type 0} → Result A PieceErr → (A → Result B PieceErr) → Result B PieceErr
(Ok x) >>= f = f x
(Err e) >>= f = Err e

abbrev pub refusal : Why → ℕ → PieceErr
refusal why.Syntax at = errors.Syntax at
refusal why.Unknown at = errors.Unknown at
refusal why.Version at = errors.Version
refusal why.Number at = errors.Number at
refusal why.NoMemory at = errors.NoMemory

abbrev pub lift : {A : Type 0} → Read A → Result A PieceErr
lift (Ok x) = Ok x
lift (Err e) = Err (refusal e.why e.at)

-- ---- the values of leaves

-- a value with white space round it
abbrev pub spaced : {A : Type 0} → (A → Val) → List ℕ → Read (A × ℕ) → Result (Val × ℕ) PieceErr
spaced view text read = lift read >>= λ v. Ok (view v.0, space_end text v.1)

-- the least number of a form, and the greatest
abbrev pub least : Form → ℕ
least form.Generation = 1
least form.BlockSize = 4096
least _ = 0

abbrev pub is_too_great : Form → ℕ → Bool
is_too_great form.Generation n = nat_lt (2 ^ 62) n
is_too_great form.Bounded n = nat_lt (2 ^ 62) n
is_too_great form.BlockSize n = nat_lt 1048576 n
is_too_great _ n = false

-- A number, behind which the place is told, within its range. Of one that is too small and ends with the text that
-- end is told: a digit more could still make it great enough, but for one of 20 digits, which is told in the same
-- way.
abbrev pub in_range : Form → List ℕ → ℕ → ℕ × ℕ → Result (ℕ × ℕ) PieceErr
in_range f text from n =
    if is_too_great f n.0 then Err (errors.Number from)
    else (if nat_lt n.0 (least f)
    then Err (if n.1 == length text then errors.Syntax (length text) else errors.Number from)
    else Ok n)

unfoldable pub number_in : Form → List ℕ → ℕ → Result (Val × ℕ) PieceErr
number_in f text from = do
  n ← lift (number_at text from)
  m ← in_range f text from n
  Ok (number m.0, space_end text m.1)

-- up to 255 characters without a slash and a NUL
abbrev pub is_volume_name : List ℕ → Bool
is_volume_name name = nat_le (length (chars name)) longest_name && not (has_byte 47 name) && not (has_byte 0 name)

-- whether a text may be a name of a form
abbrev pub is_name : Form → List ℕ → Bool
is_name form.VolumeName name = is_volume_name name
is_name form.NodeName name = is_volume_name name && nat_lt 0 (length name) && not (is_dot name)
is_name form.Key name = is_key name
is_name _ name = true

-- whether the start tag says that the text is percent-encoded
abbrev pub is_encoded : Attribute → Bool
is_encoded (attribute.Percent is) = is
is_encoded _ = false

-- the name that bytes are, which may have been percent-encoded; `from` is where its element begins
abbrev pub named : Form → ℕ → List ℕ → Result (List ℕ) PieceErr
named f from name = if is_utf8 name && is_name f name then Ok name else Err (errors.Name from)

-- the name that a text stands for, behind which a place is told; one that the document ends within could go on
abbrev pub name_of : Form → ℕ → Attribute → List ℕ → List ℕ × ℕ → Result (List ℕ) PieceErr
name_of f from attribute text v =
    if v.1 == length text then Err (errors.Syntax (length text)) else named f from (decoded (is_encoded attribute) v.0)

-- a name that stands behind its start tag
unfoldable pub name_in : Form → ℕ → Start → List ℕ → Result (Val × ℕ) PieceErr
name_in f from start text = do
  v ← lift (text_at text start.next)
  name ← name_of f from start.attribute text v
  Ok (words name, v.1)

-- whether the start tag says that the text is in base64
abbrev pub is_base64 : Attribute → Bool
is_base64 attribute.Base64 = true
is_base64 _ = false

-- white space may stand anywhere in base64
abbrev pub without_space : List ℕ → List ℕ
without_space text = filter (λ b. not (is_space b)) text

-- the bytes of which a text is the encoding: of the alphabet with `+` and `/`, with padding, and with no bits left over
-- (RFC 4648, section 4)
unfoldable pub from_base64 : List ℕ → Option (List ℕ)
from_base64 text = decoded_of standard (without_space text)

-- the bytes that a text stands for, in base64 or as it is
abbrev pub bytes_told : Bool → List ℕ → Option (List ℕ)
bytes_told in_base64 text = if in_base64 then from_base64 text else Some text

abbrev pub some_bytes : ℕ → Option (List ℕ) → Result (List ℕ) PieceErr
some_bytes at (Some bs) = Ok bs
some_bytes at None = Err (errors.Syntax at)

-- the bytes of a value by its text, behind which a place is told; one that the document ends within could go on
abbrev pub bytes_of : Attribute → List ℕ → ℕ → List ℕ × ℕ → Result (List ℕ) PieceErr
bytes_of attribute text at v =
    if v.1 == length text then Err (errors.Syntax (length text))
    else some_bytes at (bytes_told (is_base64 attribute) v.0)

-- the bytes of a value that stands behind its start tag
unfoldable pub bytes_in : Start → List ℕ → Result (Val × ℕ) PieceErr
bytes_in start text = do
  v ← lift (text_at text start.next)
  bs ← bytes_of start.attribute text (space_end text start.next) v
  Ok (bytes bs, v.1)

-- the value of a leaf behind its start tag, which begins at `from`, and the place of its end tag
abbrev pub value_in : Form → ℕ → Start → List ℕ → Result (Val × ℕ) PieceErr
value_in form.Text from start text = lift (text_at text start.next) >>= λ v. Ok (words v.0, v.1)
value_in form.VolumeName from start text = name_in form.VolumeName from start text
value_in form.NodeName from start text = name_in form.NodeName from start text
value_in form.AnyName from start text = name_in form.AnyName from start text
value_in form.Key from start text = name_in form.Key from start text
value_in form.Value from start text = bytes_in start text
value_in form.Time from start text = spaced time text (time_at text (space_end text start.next))
value_in form.Uuid from start text = spaced uuid text (uuid_at text (space_end text start.next))
value_in form.Letter from start text = spaced letter text (letter_at text (space_end text start.next))
value_in form.Truth from start text = spaced truth text (bool_at text (space_end text start.next))
value_in form.Lock from start text = spaced lock text (lock_at text (space_end text start.next))
value_in form.BlockSize from start text = number_in form.BlockSize text (space_end text start.next)
value_in form.Number from start text = number_in form.Number text (space_end text start.next)
value_in form.Bounded from start text = number_in form.Bounded text (space_end text start.next)
value_in form.Generation from start text = number_in form.Generation text (space_end text start.next)

-- only a text, a name and a value may be empty
abbrev pub empty_value : Form → ℕ → ℕ → Result (Val × ℕ) PieceErr
empty_value form.Text from at = Ok (words [], at)
empty_value form.VolumeName from at = named form.VolumeName from [] >>= λ name. Ok (words name, at)
empty_value form.NodeName from at = named form.NodeName from [] >>= λ name. Ok (words name, at)
empty_value form.AnyName from at = named form.AnyName from [] >>= λ name. Ok (words name, at)
empty_value form.Key from at = named form.Key from [] >>= λ name. Ok (words name, at)
empty_value form.Value from at = Ok (bytes [], at)
empty_value _ from at = Err (errors.Syntax at)

-- the rest of a leaf, behind its start tag
unfoldable pub leaf_at : Form → Tag → ℕ → Start → List ℕ → Result (Val × ℕ) PieceErr
leaf_at f tag from start text =
    if start.empty then empty_value f from start.next
    else (do
      v ← value_in f from start text
      e ← lift (end_at text v.1 tag)
      Ok (v.0, e))

-- ---- children and ends

abbrev pub none_missing : Option Tag → Result (Unit {0}) PieceErr
none_missing None = Ok tt
none_missing (Some tag) = Err (errors.Missing tag)

-- whether the parent has stood for a node
abbrev pub opens_node : Child → Bool
opens_node (child.Parent p) = is_node p
opens_node _ = false

-- one of these elements has stood there
abbrev pub has_any : List Tag → List Tag → Bool
has_any tags seen = list_any (λ tag. member tag seen) tags

-- Whether a known element may stand as a child here, in a document with so many nodes before it: beside the others,
-- again, and as one node more.
abbrev pub beside : Frame → ℕ → ℕ → Tag → Child → Result Child PieceErr
beside f nodes at tag c =
    if has_any (excludes tag) f.seen then Err (errors.Unknown at)
    else (if member tag f.seen && not (may_repeat f.place tag) then Err (errors.Twice at)
    else (if opens_node c && nat_le most_nodes nodes then Err errors.TooMany else Ok c))

abbrev pub if_known : Child → ℕ → Result Child PieceErr → Result Child PieceErr
if_known child.Unknown at r = Err (errors.Unknown at)
if_known (child.Leaf form) at r = r
if_known (child.Parent place) at r = r

-- whether an element may stand as a child here
unfoldable pub verdict : Frame → ℕ → ℕ → Tag → Result Child PieceErr
verdict f nodes at tag = if_known (rule f.place tag) at (beside f nodes at tag (rule f.place tag))

abbrev pub unknown_by : {A : Type 0} → Why → ℕ → Result A PieceErr → Result A PieceErr
unknown_by why.Unknown at r = Err (errors.Unknown at)
unknown_by why.Syntax at r = r
unknown_by why.Version at r = r
unknown_by why.Number at r = r
unknown_by why.NoMemory at r = r

-- an attribute that isn't known comes before what the element itself has against it
abbrev pub unknown_first : {A B : Type 0} → Read A → Result B PieceErr → Result B PieceErr
unknown_first (Ok x) r = r
unknown_first (Err e) r = unknown_by e.why e.at r

unfoldable pub made : Child → Tag → ℕ → Start → List ℕ → Result (Piece × ℕ) PieceErr
made child.Unknown tag from start text = Err (errors.Unknown start.next)
made (child.Leaf form) tag from start text = leaf_at form tag from start text >>= λ v. Ok (leaf tag v.0, v.1)
made (child.Parent place) tag from start text =
    if start.empty then (none_missing (first_missing (required place) []) >>= λ _. Ok (whole place, start.next))
    else Ok (opens place, start.next)

unfoldable pub child_at : Frame → ℕ → List ℕ → ℕ → Result (Piece × ℕ) PieceErr
child_at f nodes text at = do
  t ← lift (named_at text at)
  c ← unknown_first (rest_at t.0 at text t.1) (verdict f nodes at t.0)
  start ← lift (rest_at t.0 at text t.1)
  made c t.0 at start text

unfoldable pub close_at : Frame → List ℕ → ℕ → Result (Piece × ℕ) PieceErr
close_at f text at = do
  next ← lift (end_at text at (tag_of f.place))
  _ ← none_missing (first_missing (required f.place) f.seen)
  Ok (closes, next)

-- the piece that follows inside an open parent, in a document with so many nodes before it, and the place behind the
-- piece
unfoldable pub piece_at : Frame → ℕ → List ℕ → ℕ → Result (Piece × ℕ) PieceErr
piece_at f nodes text at =
    if byte text (space_end text at) == 60 && byte text (space_end text at + 1) == 47
    then close_at f text (space_end text at)
    else child_at f nodes text (space_end text at)
