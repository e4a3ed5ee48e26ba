-- What a read tells of the item at the head.
use Rattle.std.proofs.Common.{◌≡◌, ℕ, List, Bool, true, false, Option, Some, None, Result, Ok, Err, IfOk, refl, sym, ap, subst, ◌∙◌, slice_get}
use Rattle.std.specs.Bool.{MatchBool}
use Rattle.std.specs.Option.{MatchOption}
use Rattle.std.specs.Prelude.{IfSome}
use Rattle.tape_types.specs.Cartridges.{items_of, next}
use Rattle.tape_types.specs.declared.cartridges.Cartridge.{Cartridge}
use Rattle.tape_types.specs.declared.cartridges.Place.{Place}
use Rattle.tape_drive.specs.declared.drive.DriveErr.{DriveErr}
use Rattle.tape_types.specs.declared.cartridges.Item.{Item}
use Rattle.tape_types.specs.declared.cartridges.Item.TheVariants.{Block, Mark, Torn}
use Rattle.tape_drive.specs.declared.drive.Got.{Got}
use Rattle.tape_drive.specs.declared.drive.Got.TheVariants as got
use Rattle.tape_drive.specs.Commands.{IsRead, after_read, item_at}
use Rattle.vol_label.specs.declared.Vol1.{Vol1}
use Rattle.vol_label.specs.Table.{IsRecord}
use Rattle.ltfs_label.specs.Grammar.{LabelText}
use Rattle.ltfs_label.specs.Values.{LabelValue, label_of}
use Rattle.ltfs_label.specs.Reading.{IsReadOr}
use Rattle.ltfs_label.specs.declared.Label.{Label}
use Rattle.ltfs_label.specs.declared.errors.LabelErr.{LabelErr}
use Rattle.cartridge_meaning.specs.Labels.{HasLabel, HasSomeLabel, HasSomeRecord, IsMarkedBlock}
use Rattle.mount_recover.specs.Labels.{IsSpelled, is_block, is_mark, is_no_memory}

-- a read that found a block tells the block that stands there
pub block_is : (x : Option Item) (answer : Got) (buf : List ℕ) → IsRead x answer buf → is_block answer ≡ true → x ≡ Some (Block buf)
block_is None answer buf r e = absurd (let bad : false ≡ true = sym (ap is_block r.0) ∙ e in cc bad)
block_is (Some (Block bytes)) answer buf r e = ap (λ (b : List ℕ). Some (Block b)) (sym r.1)
block_is (Some Mark) answer buf r e = absurd (let bad : false ≡ true = sym (ap is_block r.0) ∙ e in cc bad)
block_is (Some Torn) answer buf r e = absurd (let bad : false ≡ true = sym (ap is_block r.0) ∙ e in cc bad)

-- a read that found no block tells that none stands there
pub no_block : (x : Option Item) (answer : Got) (buf bytes : List ℕ) → IsRead x answer buf → is_block answer ≡ false → x ≡ Some (Block bytes) → ⊥
no_block None answer buf bytes r e is = cc is
no_block (Some (Block held)) answer buf bytes r e is = let bad : true ≡ false = sym (ap is_block r.0) ∙ e in cc bad
no_block (Some Mark) answer buf bytes r e is = cc is
no_block (Some Torn) answer buf bytes r e is = cc is

-- a read that found a mark tells that one stands there
pub mark_is : (x : Option Item) (answer : Got) (buf : List ℕ) → IsRead x answer buf → is_mark answer ≡ true → x ≡ Some Mark
mark_is None answer buf r e = absurd (let bad : false ≡ true = sym (ap is_mark r.0) ∙ e in cc bad)
mark_is (Some (Block bytes)) answer buf r e = absurd (let bad : false ≡ true = sym (ap is_mark r.0) ∙ e in cc bad)
mark_is (Some Mark) answer buf r e = refl
mark_is (Some Torn) answer buf r e = absurd (let bad : false ≡ true = sym (ap is_mark r.0) ∙ e in cc bad)

-- a read that found no mark tells that none stands there
pub no_mark : (x : Option Item) (answer : Got) (buf : List ℕ) → IsRead x answer buf → is_mark answer ≡ false → x ≡ Some Mark → ⊥
no_mark None answer buf r e is = cc is
no_mark (Some (Block held)) answer buf r e is = cc is
no_mark (Some Mark) answer buf r e is = let bad : true ≡ false = sym (ap is_mark r.0) ∙ e in cc bad
no_mark (Some Torn) answer buf r e is = cc is

-- a read that found a block leaves the head at the next position
pub after_block : (answer : Got) (at : Place) → is_block answer ≡ true → after_read answer at ≡ next at
after_block got.Block at e = refl
after_block got.Mark at e = refl
after_block got.End at e = absurd cc
after_block got.Torn at e = absurd cc

-- what two reads tell of a block with a file mark behind it
pub both_told : (r : Result Bool DriveErr) (before now : Cartridge → Type 0) (head : Place → Type 0) (place : Place) (buf : List ℕ)
    → ((c : Cartridge) → before c → now c) → head (next place) → ((c : Cartridge) → before c → item_at place c ≡ Some (Block buf))
    → IfOk r (λ yes. (at : Place) (c : Cartridge) → head at → now c → MatchBool yes (item_at at c ≡ Some Mark) (item_at at c ≡ Some Mark → ⊥))
    → IfOk r (λ yes. (c : Cartridge) → before c → MatchBool yes (IsMarkedBlock (items_of place.part c) place.pos buf) ((bytes : List ℕ) → ¬ IsMarkedBlock (items_of place.part c) place.pos bytes))
both_told (Ok true) before now head place buf stays at first second = λ c h. record { block = first c h; mark = second (next place) c at (stays c h) }
both_told (Ok false) before now head place buf stays at first second = λ c h bytes m. second (next place) c at (stays c h) m.mark
both_told (Err e) before now head place buf stays at first second = tt

-- at a position stands one block
pub same_block : (items : List Item) (pos : ℕ) (a b : List ℕ) → slice_get items pos ≡ Some (Block a) → slice_get items pos ≡ Some (Block b) → a ≡ b
same_block items pos a b x y = let both : ◌≡◌ {A = Option Item} (Some (Block a)) (Some (Block b)) = sym x ∙ y in cc

-- a partition whose first block is no record has none
pub no_record : (items : List Item) (buf : List ℕ) → IsMarkedBlock items 0 buf → ((v : Vol1) → IsRecord buf v → ⊥) → HasSomeRecord items → ⊥
no_record items buf m none (v, h) = none v (subst (λ (b : List ℕ). IsRecord b v) (same_block items 0 h.bytes buf h.stands.block m.block) h.spelled)

no_label : (items : List Item) (buf : List ℕ) → IsMarkedBlock items 2 buf → ((v : LabelValue) → LabelText buf v → ⊥) → HasSomeLabel items → ⊥
no_label items buf m none (v, h) = none v (subst (λ (b : List ℕ). LabelText b v) (same_block items 2 h.bytes buf h.stands.block m.block) h.spelled)

-- a refusal of another cause is none of a label's text
pub not_given : (e : LabelErr) (v : LabelValue) → is_no_memory e ≡ false → IsReadOr (Err e) v → ⊥
not_given e v other g = let bad : true ≡ false = sym (ap is_no_memory g) ∙ other in cc

-- what the second block says as a label is the partition's label, or there is none
pub label_found : (items : List Item) (buf : List ℕ) (found : Option Label) → IsMarkedBlock items 2 buf
    → MatchOption found ((v : LabelValue) → LabelText buf v → ⊥) (λ label. LabelText buf (label_of label)) → MatchOption found (¬ HasSomeLabel items) (λ label. HasLabel items (label_of label))
label_found items buf None m text = no_label items buf m text
label_found items buf (Some label) m text = record { bytes = buf; stands = m; spelled = text }

-- a label that was read is that of some text
pub spelled_found : (buf : List ℕ) (found : Option Label)
    → MatchOption found ((v : LabelValue) → LabelText buf v → ⊥) (λ label. LabelText buf (label_of label)) → IfSome found IsSpelled
spelled_found buf None text = tt
spelled_found buf (Some label) text = (buf, text)
