-- A child that is a parent has that parent's element.
use Rattle.std.proofs.Common.{◌≡◌, sym, ap}
use Rattle.ltfs_documents.specs.declared.doc_fields.tags.Tag.{Tag}
use Rattle.ltfs_documents.specs.declared.doc_fields.tags.Tag.TheVariants.{Location, Partitions, PreviousGenerationLocation, DataPlacementPolicy, IndexPartitionCriteria, Directory, File, ExtendedAttributes, Contents, ExtentInfo, Extent, Key, Xattr}
use Rattle.ltfs_documents.specs.declared.doc_elements.schema.Container.{Container}
use Rattle.ltfs_documents.specs.declared.doc_elements.schema.Container.TheVariants as place
use Rattle.ltfs_documents.specs.declared.doc_elements.schema.Form.{Form}
use Rattle.ltfs_documents.specs.declared.doc_elements.schema.Form.TheVariants as form
use Rattle.ltfs_documents.specs.declared.doc_elements.schema.Child.TheVariants as child
use Rattle.ltfs_documents.specs.DocElements.Schema.{attributes_rule, contents_rule, criteria_rule, directory_rule, extent_rule, extents_rule, file_rule, index_rule, label_rule, letters_rule, node_rule, own_rule, policy_rule, rule, spot_rule, tag_of, xattr_rule}

label_tag : (tag : Tag) (q : Container) → label_rule tag ≡ child.Parent q → tag_of q ≡ tag
label_tag Location q e = let same : place.Own ≡ q = cc in ap tag_of (sym same)
label_tag Partitions q e = let same : place.Letters ≡ q = cc in ap tag_of (sym same)
label_tag _ q e = absurd cc

own_tag : (tag : Tag) (q : Container) → own_rule tag ≡ child.Parent q → tag_of q ≡ tag
own_tag Location q e = absurd cc
own_tag _ q e = absurd cc

letters_tag : (tag : Tag) (q : Container) → letters_rule tag ≡ child.Parent q → tag_of q ≡ tag
letters_tag Location q e = absurd cc
letters_tag _ q e = absurd cc

index_tag : (tag : Tag) (q : Container) → index_rule tag ≡ child.Parent q → tag_of q ≡ tag
index_tag Location q e = let same : place.Here ≡ q = cc in ap tag_of (sym same)
index_tag PreviousGenerationLocation q e = let same : place.Back ≡ q = cc in ap tag_of (sym same)
index_tag DataPlacementPolicy q e = let same : place.Policy ≡ q = cc in ap tag_of (sym same)
index_tag Directory q e = let same : place.Root ≡ q = cc in ap tag_of (sym same)
index_tag _ q e = absurd cc

spot_tag : (tag : Tag) (q : Container) → spot_rule tag ≡ child.Parent q → tag_of q ≡ tag
spot_tag Location q e = absurd cc
spot_tag _ q e = absurd cc

policy_tag : (tag : Tag) (q : Container) → policy_rule tag ≡ child.Parent q → tag_of q ≡ tag
policy_tag IndexPartitionCriteria q e = let same : place.Criteria ≡ q = cc in ap tag_of (sym same)
policy_tag _ q e = absurd cc

criteria_tag : (tag : Tag) (q : Container) → criteria_rule tag ≡ child.Parent q → tag_of q ≡ tag
criteria_tag Location q e = absurd cc
criteria_tag _ q e = absurd cc

node_tag : (name : Form) (tag : Tag) (q : Container) → node_rule name tag ≡ child.Parent q → tag_of q ≡ tag
node_tag name ExtendedAttributes q e = let same : place.Attributes ≡ q = cc in ap tag_of (sym same)
node_tag name _ q e = absurd cc

directory_tag : (name : Form) (tag : Tag) (q : Container) → directory_rule name tag ≡ child.Parent q → tag_of q ≡ tag
directory_tag name Contents q e = let same : place.Contents ≡ q = cc in ap tag_of (sym same)
directory_tag name ExtendedAttributes q e = let same : place.Attributes ≡ q = cc in ap tag_of (sym same)
directory_tag name _ q e = absurd cc

contents_tag : (tag : Tag) (q : Container) → contents_rule tag ≡ child.Parent q → tag_of q ≡ tag
contents_tag Directory q e = let same : place.Directory ≡ q = cc in ap tag_of (sym same)
contents_tag File q e = let same : place.File ≡ q = cc in ap tag_of (sym same)
contents_tag _ q e = absurd cc

file_tag : (tag : Tag) (q : Container) → file_rule tag ≡ child.Parent q → tag_of q ≡ tag
file_tag ExtentInfo q e = let same : place.ExtentInfo ≡ q = cc in ap tag_of (sym same)
file_tag ExtendedAttributes q e = let same : place.Attributes ≡ q = cc in ap tag_of (sym same)
file_tag _ q e = absurd cc

extents_tag : (tag : Tag) (q : Container) → extents_rule tag ≡ child.Parent q → tag_of q ≡ tag
extents_tag Extent q e = let same : place.Extent ≡ q = cc in ap tag_of (sym same)
extents_tag _ q e = absurd cc

extent_tag : (tag : Tag) (q : Container) → extent_rule tag ≡ child.Parent q → tag_of q ≡ tag
extent_tag Location q e = absurd cc
extent_tag _ q e = absurd cc

attributes_tag : (tag : Tag) (q : Container) → attributes_rule tag ≡ child.Parent q → tag_of q ≡ tag
attributes_tag Xattr q e = let same : place.Xattr ≡ q = cc in ap tag_of (sym same)
attributes_tag _ q e = absurd cc

xattr_tag : (tag : Tag) (q : Container) → xattr_rule tag ≡ child.Parent q → tag_of q ≡ tag
xattr_tag Key q e = absurd cc
xattr_tag _ q e = absurd cc

-- an element that the rules read as a parent has that parent's name
pub rule_tag : (p : Container) (tag : Tag) (q : Container) → rule p tag ≡ child.Parent q → tag_of q ≡ tag
rule_tag place.Label tag q e = label_tag tag q e
rule_tag place.Own tag q e = own_tag tag q e
rule_tag place.Letters tag q e = letters_tag tag q e
rule_tag place.Index tag q e = index_tag tag q e
rule_tag place.Here tag q e = spot_tag tag q e
rule_tag place.Back tag q e = spot_tag tag q e
rule_tag place.Policy tag q e = policy_tag tag q e
rule_tag place.Criteria tag q e = criteria_tag tag q e
rule_tag place.Root tag q e = directory_tag form.VolumeName tag q e
rule_tag place.Directory tag q e = directory_tag form.NodeName tag q e
rule_tag place.Contents tag q e = contents_tag tag q e
rule_tag place.File tag q e = file_tag tag q e
rule_tag place.Attributes tag q e = attributes_tag tag q e
rule_tag place.ExtentInfo tag q e = extents_tag tag q e
rule_tag place.Extent tag q e = extent_tag tag q e
rule_tag place.Xattr tag q e = xattr_tag tag q e
