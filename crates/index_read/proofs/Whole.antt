-- From the parts to the whole text.
use Rattle.std.proofs.Common.{◌≡◌, ℕ, List, [], length, Ok, inl, inr, refl, sym, ap, subst, ◌∙◌}
use Rattle.ltfs_documents.specs.DocFields.Space.{space_end}
use Rattle.ltfs_documents.specs.declared.doc_elements.errors.PieceErr.{PieceErr}
use Rattle.ltfs_documents.specs.declared.doc_elements.errors.PieceErr.TheVariants as pieces
use Rattle.ltfs_documents.specs.declared.doc_elements.schema.Container.TheVariants as place
use Rattle.ltfs_documents.specs.DocElements.Answers as answers
use Rattle.ltfs_documents.specs.DocElements.Documents.{Accepts, head_of, Halts, at_end, readable}
use Rattle.index_model.specs.declared.errors.IndexErr.{IndexErr}
use Rattle.index_model.specs.declared.errors.IndexErr.TheVariants as errors
use Rattle.index_model.specs.Documents.{refusal_told}
use Rattle.index_read.specs.Answers.{UnlessMemory}
use Rattle.index_read.specs.Told.{State}
use Rattle.index_read.specs.Walks.{IsRefused, IsWhole, Walked}

-- what holds in any case holds unless memory was refused
pub unless_always : (e : IndexErr) (P : Type 0) → P → UnlessMemory e P
unless_always errors.NoMemory P p = tt
unless_always _ P p = p

-- what follows from a fact follows from it unless memory was refused
pub unless_map : (e : IndexErr) (P Q : Type 0) → (P → Q) → UnlessMemory e P → UnlessMemory e Q
unless_map errors.NoMemory P Q f p = tt
unless_map _ P Q f p = f p

-- what holds unless a piece wants memory holds unless the index does
pub unless_told : (e : PieceErr) (P Q : Type 0) → (P → Q) → answers.UnlessMemory e P → UnlessMemory (refusal_told e) Q
unless_told pieces.NoMemory P Q f p = tt
unless_told _ P Q f p = f p

-- behind the root only white space may stand: anything else stops the document
pub walked_halts : (text : List ℕ) (inside at end : ℕ) (s : State) → head_of place.Index text ≡ Ok inside → Walked text inside at s → end ≡ space_end text at → (end ≡ length text → ⊥) → Halts place.Index text (pieces.Syntax end)
walked_halts text inside at end s h x e ne =
    subst (λ (n : ℕ). Halts place.Index text (pieces.Syntax n)) (sym e)
    (at_end x.ps (record { at = at; parents = []; nodes = length s.nodes }) (record { inside = inside; head_is = h; reaches = x.reaches }) refl (λ is. ne (e ∙ is)))

-- a byte that isn't UTF-8 follows a whole document
pub ends_badly : (text front : List ℕ) (s : State) → front ≡ readable text → IsWhole front s → (length front ≡ length text → ⊥) → IsRefused text (errors.Syntax (length front))
ends_badly text front s same w more = inl (record {
  why = pieces.Syntax (length front);
  stops = inr (
    record {
      ps = w.ps;
      accepts = subst (λ (t : List ℕ). Accepts place.Index t w.ps) same w.accepts;
      more = λ (e : length (readable text) ≡ length text). more (ap length same ∙ e);
    },
    ap (λ (t : List ℕ). pieces.Syntax (length t)) same,
  );
  told = refl;
})
