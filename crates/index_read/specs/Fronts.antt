-- The front of a document of an index, behind which its pointers are told.
use Rattle.std.specs.Prelude.{◌≡◌, ◌⊎◌, Bool, ℕ, List, [], ◌∷◌, true, length, Some, Ok}
use Rattle.tape_types.specs.Times.{civil_of}
use Rattle.ltfs_documents.specs.declared.doc_fields.tags.Tag.{Tag}
use Rattle.ltfs_documents.specs.declared.doc_fields.tags.Tag.TheVariants.{Location, PreviousGenerationLocation}
use Rattle.index_model.specs.declared.indexes.Index.{Index}
use Rattle.index_model.specs.declared.indexes.Spot.{Spot}
use Rattle.ltfs_documents.specs.DocElements.Children.{Holds, member}
use Rattle.ltfs_documents.specs.declared.doc_elements.children.Children.{Children}
use Rattle.ltfs_documents.specs.declared.doc_elements.schema.Container.TheVariants as place
use Rattle.ltfs_documents.specs.DocElements.Pieces.{Piece}
use Rattle.ltfs_documents.specs.DocElements.Documents.{Reaches, fresh, head_of}
use Rattle.index_read.specs.declared.drafts.Draft.{Draft}
use Rattle.index_read.specs.declared.walking.Level as code_level
use Rattle.index_read.specs.Told.{State, Tell, blank, outermost}

-- up to a place a text is whole pieces, of which the root alone is open then; its children that have stood there, the
-- self pointer among them, and what was told
pub record IsFront (text : List ℕ) (at : ℕ) (seen : Children) (s : State) : Type 0 where
  pub inside : ℕ
  pub head_is : head_of place.Index text ≡ Ok inside
  pub ps : List Piece
  pub tags : List Tag
  pub seen_is : Holds seen tags
  pub reaches : Reaches text ps inside (fresh place.Index ∷ []) 0
      (record { at = at; parents = record { place = place.Index; seen = tags } ∷ []; nodes = length s.nodes })
  pub tells : Tell ps outermost blank outermost s
  pub here : member Location tags ≡ true

-- the back pointer has stood there, where there is one
abbrev pub HasBack : Bool → List Tag → Type 0
HasBack lone tags = (lone ≡ true) ⊎ (member PreviousGenerationLocation tags ≡ true)

-- what was told, with other pointers
abbrev pub repointed : (here back : Spot) → State → State
repointed here back s = record s { volume = record s.volume { here = here; back = Some back } }

-- an index with other pointers
abbrev pub with_pointers : Index → (here back : Spot) → Index
with_pointers index here back = record index { here = here; back = Some back }

-- the pointers have stood in an open parent, which is the root; `lone` says that there is no back pointer
pub record IsRootPointed (lone : Bool) (top : code_level.Level) : Type 0 where
  pub place : top.frame.place ≡ place.Index
  pub node : top.node ≡ 0
  pub here : (tags : List Tag) → Holds top.frame.seen tags → member Location tags ≡ true
  pub back : (tags : List Tag) → Holds top.frame.seen tags → HasBack lone tags

-- ---- two indexes that are alike but for their pointers and nodes

pub record AreNamedAlike (a b : Index) : Type 0 where
  pub creator : a.creator ≡ b.creator
  pub comment : a.comment ≡ b.comment
  pub updated : civil_of a.updated ≡ civil_of b.updated

pub record AreNumberedAlike (a b : Index) : Type 0 where
  pub uuid : a.uuid ≡ b.uuid
  pub generation : a.generation ≡ b.generation
  pub highest : a.highest ≡ b.highest

pub record AreRuledAlike (a b : Index) : Type 0 where
  pub allow : a.allow ≡ b.allow
  pub policy : a.policy ≡ b.policy
  pub lock : a.lock ≡ b.lock

-- two drafts tell the same of what belongs to no index
pub record AreDraftedAlike (a b : Draft) : Type 0 where
  pub nodes_first : a.nodes.items ≡ []
  pub nodes_second : b.nodes.items ≡ []
  pub extent : a.extent ≡ b.extent
  pub key : a.xattr.key ≡ b.xattr.key
  pub value : a.xattr.value ≡ b.xattr.value
