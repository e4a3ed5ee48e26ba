-- Which check of a cartridge fails, and what its labels are.
use Rattle.std.proofs.Common.{◌≡◌, ◌∙◌, ℕ, List, Option, Some, None, Result, Ok, Err, IfOk, IfErr, refl, sym, ap, subst}
use Rattle.std.specs.Prelude.{IfSome, IsErrAnd}
use Rattle.cartridge_meaning.proofs.OneWay.{label_once}
use Rattle.tape_types.specs.declared.cartridges.Cartridge.{Cartridge}
use Rattle.tape_types.specs.declared.cartridges.Item.{Item}
use Rattle.tape_types.specs.declared.cartridges.Part.TheVariants as parts
use Rattle.tape_types.specs.declared.moments.Moment.{Moment}
use Rattle.tape_types.specs.Times.{civil_of, civil_text, time_text}
use Rattle.tape_types.proofs.CivilLemmas.{time_text_injective}
use Rattle.vol_label.specs.declared.Vol1.{Vol1}
use Rattle.vol_label.specs.Table.{IsRecord}
use Rattle.ltfs_label.specs.Values.{LabelValue, label_of}
use Rattle.cartridge_meaning.specs.declared.labels.Labels.{Labels}
use Rattle.cartridge_meaning.specs.declared.errors.MountErr.{MountErr}
use Rattle.cartridge_meaning.specs.declared.errors.MountErr.TheVariants as errors
use Rattle.cartridge_meaning.specs.Labels.{AreOfOneVolume, HasLabel, HasLabels, HasRecord}
use Rattle.mount_recover.specs.Labels.{Fails, IsReadAs, Refuses}
use Rattle.mount_recover.proofs.ReadLemmas.{same_block}

-- two moments of one date and time of day have one text, and so are one
pub one_civil : (m n : Moment) → civil_of m ≡ civil_of n → m ≡ n
unfolding time_text civil_text
one_civil m n e = time_text_injective m n (ap civil_text e)

-- what holds of the cartridge that is told holds where one is told
pub where_told : (o : Option Cartridge) (P : Cartridge → Type 0) → ((c : Cartridge) → o ≡ Some c → P c) → IfSome o P
where_told None P holds = tt
where_told (Some c) P holds = holds c refl

-- where this check failed, and all before it hold, it is the first that fails
pub refused : (c : Cartridge) (check e : MountErr) (cause : Type 0) → Refuses check cause e → (cause → Fails c check) → Fails c e
refused c check (errors.Drive counts) cause r fails = tt
refused c check errors.NoMemory cause r fails = tt
refused c check e cause r fails = subst (λ (x : MountErr). Fails c x) (sym r.0) (fails r.1)

-- one record and one label at most stands at its place
one_record : (items : List Item) (v w : Vol1) → HasRecord items v → HasRecord items w → v ≡ w
one_record items v w h k =
    let same : h.bytes ≡ k.bytes = same_block items 0 h.bytes k.bytes h.stands.block k.stands.block in
    let other : IsRecord h.bytes w = subst (λ (b : List ℕ). IsRecord b w) (sym same) k.spelled in
    let volume : v.volume ≡ w.volume = sym h.spelled.volume_identifier ∙ other.volume_identifier in
    let owner : v.owner ≡ w.owner = sym h.spelled.owner_identifier ∙ other.owner_identifier in
    λ i. record { volume = volume i; owner = owner i }

differ_not : (c : Cartridge) (l : Labels) (ip dp : LabelValue) → HasLabels c l → HasLabel c.ip ip → HasLabel c.dp dp → ¬ AreOfOneVolume ip dp → ⊥
differ_not c l ip dp h at_ip at_dp differ =
    differ (subst (λ v. AreOfOneVolume v dp) (label_once c.ip (label_of l.ip) ip h.ip at_ip) (subst (λ v. AreOfOneVolume (label_of l.ip) v) (label_once c.dp (label_of l.dp) dp h.dp at_dp) h.one_volume))

-- a cartridge with labels has no others, and fails no check
pub is_read_as : (c : Cartridge) (l : Labels) (r : Result Labels MountErr) → IfOk r (λ m. HasLabels c m) → IfErr r (Fails c) → HasLabels c l → IsReadAs l r
is_read_as c l (Ok m) found fails h = (one_record c.ip m.ip_record l.ip_record found.ip_record h.ip_record, one_record c.dp m.dp_record l.dp_record found.dp_record h.dp_record, label_once c.ip (label_of m.ip) (label_of l.ip) found.ip h.ip, label_once c.dp (label_of m.dp) (label_of l.dp) found.dp h.dp)
is_read_as c l (Err (errors.Vol1 parts.Ip)) found fails h = fails (l.ip_record, h.ip_record)
is_read_as c l (Err (errors.Vol1 parts.Dp)) found fails h = fails.1 (l.dp_record, h.dp_record)
is_read_as c l (Err (errors.Label parts.Ip)) found fails h = fails.1 (label_of l.ip, h.ip)
is_read_as c l (Err (errors.Label parts.Dp)) found fails h = fails.2 (label_of l.dp, h.dp)
is_read_as c l (Err errors.LabelsDiffer) found fails h = differ_not c l fails.ip fails.dp h fails.ip_is fails.dp_is fails.differ
is_read_as c l (Err (errors.Layout place)) found fails h = fails
is_read_as c l (Err errors.NoIndex) found fails h = fails
is_read_as c l (Err (errors.BadIndex place e)) found fails h = fails
is_read_as c l (Err (errors.WrongVolume place)) found fails h = fails
is_read_as c l (Err (errors.WrongPointer place)) found fails h = fails
is_read_as c l (Err (errors.BadExtent uid)) found fails h = fails
is_read_as c l (Err (errors.Drive counts)) found fails h = tt
is_read_as c l (Err errors.NoMemory) found fails h = tt

-- what holds of an error holds of what a `?` gives back
pub given_back : {T : Type 0} (r : Result T MountErr) (e : MountErr) (Q : MountErr → Type 0) → IsErrAnd r (λ x. x ≡ e) → Q e → IfErr r Q
given_back (Ok v) e Q is holds = tt
given_back (Err x) e Q is holds = subst Q (sym is) holds

-- what holds of the cartridge that is told, in each case
pub where_ok : {T E : Type 0} (r : Result T E) (A : Cartridge → Type 0) (P : T → Cartridge → Type 0) (c : Cartridge) → IfOk r (λ x. (c : Cartridge) → A c → P x c) → A c → IfOk r (λ x. P x c)
where_ok (Ok x) A P c holds at = holds c at
where_ok (Err e) A P c holds at = tt

-- what a refusal says of each cartridge of a kind, it says of this one
pub where_err : {T E : Type 0} (r : Result T E) (A : Cartridge → Type 0) (P : E → Cartridge → Type 0) (c : Cartridge) → IfErr r (λ e. (c : Cartridge) → A c → P e c) → A c → IfErr r (λ e. P e c)
where_err (Ok x) A P c holds at = tt
where_err (Err e) A P c holds at = holds c at
