-- Where the next item of a partition goes.
use Rattle.std.specs.Prelude.{◌≡◌, ℕ, zero, suc, List, [], ◌∷◌, length}
use Rattle.tape_types.specs.declared.cartridges.Item.{Item}
use Rattle.content_laws.specs.Readings.{Construct, after_of, front}
use Rattle.content_laws.specs.Content.{Content, Phase, Data, Index, Bad}

-- the position behind the leading blocks of what follows the last index
abbrev pub lead_of : ℕ → Phase → ℕ
lead_of pos (Data n) = pos
lead_of pos (Index mark blocks) = mark
lead_of pos (Bad at) = at

-- the data partition ends behind its last index
abbrev pub end_dp : List Construct → ℕ
end_dp [] = 4
end_dp (k ∷ older) = after_of k

-- the index partition ends at the opening mark of its last index where its front ends with that, and else behind the
-- leading blocks of what follows
abbrev pub end_ip_in : ℕ → Phase → List Construct → ℕ
end_ip_in pos (Data zero) (k ∷ older) = k.mark
end_ip_in pos (Data zero) [] = pos
end_ip_in pos (Data (suc n)) ks = pos
end_ip_in pos (Index mark blocks) ks = mark
end_ip_in pos (Bad at) ks = at

abbrev pub end_ip : Content → ℕ
end_ip s = end_ip_in s.pos s.phase s.constructs

-- the indexes below the end of the index partition
abbrev pub kept_in : Phase → List Construct → List Construct
kept_in (Data zero) (k ∷ older) = older
kept_in (Data zero) [] = []
kept_in (Data (suc n)) ks = ks
kept_in (Index mark blocks) ks = ks
kept_in (Bad at) ks = ks

abbrev pub kept_on_ip : Content → List Construct
kept_on_ip s = kept_in s.phase s.constructs

-- the items of a partition end with this index
abbrev pub EndsWith : List Item → Construct → Type 0
EndsWith items k = length items ≡ after_of k

-- the items end with the last of these indexes
abbrev pub EndsWithLast : List Item → List Construct → Type 0
EndsWithLast items [] = ⊥
EndsWithLast items (k ∷ older) = EndsWith items k

-- there is no index, or one alone, with which the front ends
abbrev pub IsOneAtMost : List Item → List Construct → Type 0
IsOneAtMost items [] = Unit {0}
IsOneAtMost items (k ∷ older) = (older ≡ []) × EndsWith (front items) k
