-- What a save of several files does to a folder, call by call: none of them gets its name before all are whole.
--     FilePart            a file's name, and its bytes
--     AreMade .. s t parts
--                         between s and t each file was made under its name with `.new` behind it, written whole and
--                         synced, one after the other; no call failed
--     AreNamed .. s t parts
--                         and each was renamed to its name
--     AreSaved .. s t parts
--                         all were made, and then all were renamed
--     StopsNaming .. s t parts
--                         some were renamed, and the rename of the next one failed
--     SaysWhy .. s t parts fault
--                         they weren't: the call that the fault names was the last, and the one that failed, or a write
--                         that took nothing of the bytes that it was offered; the files before are made, and renamed
--     HasAll parts m n    each name has its bytes, nothing stands under the names with `.new`, and every other file is
--                         as before
--     KeepsNamed parts m n
--                         every file but those with `.new` is as before
use Rattle.std.specs.Prelude.{◌≡◌, ◌≢◌, ℕ, List, [], ◌∷◌, ◌++◌, Some, None, Ok}
use Rattle.std.specs.FinMap.{get}
use Rattle.byte_io.specs.Streams.{Answer}
use Rattle.file_folder.specs.Calls.{FolderCall, Done, rename}
use Rattle.file_folder.specs.Files.{Files}
use Rattle.snap_file.specs.Saving.{unfinished, Fails, IsFileSynced, SaysWhyNotMade}
use Rattle.snap_file.specs.declared.fault.SaveFault.{SaveFault}
use Rattle.snap_file.specs.declared.fault.SaveFault.TheVariants.{Memory, Rename}

abbrev pub FilePart : Type 0
FilePart = List ℕ × List ℕ

module _ {S : Type 0} (calls : S → FolderCall → Done → S → Type 0) (takes : S → List ℕ → Answer → S → Type 0)
    (failures : S → ℕ) where
  abbrev pub AreMade : S → S → List FilePart → Type 0
  AreMade s t [] = s ≡ t
  AreMade s t (part ∷ parts) = (made : S) × IsFileSynced calls takes failures s made (unfinished part.0) part.1
      × AreMade made t parts

  abbrev pub AreNamed : S → S → List FilePart → Type 0
  AreNamed s t [] = s ≡ t
  AreNamed s t (part ∷ parts) = (named : S) × calls s (rename (unfinished part.0) part.0) (Ok tt) named
      × AreNamed named t parts

  pub record AreSaved (s t : S) (parts : List FilePart) : Type 0 where
    pub made : S
    pub are_made : AreMade s made parts
    pub are_named : AreNamed made t parts

  -- a file wasn't made, behind others
  pub record IsNotMade (s t : S) (parts : List FilePart) (fault : SaveFault) : Type 0 where
    pub before : List FilePart
    pub part : FilePart
    pub behind : List FilePart
    pub parts_are : parts ≡ before ++ part ∷ behind
    pub made : S
    pub are_made : AreMade s made before
    pub why : SaysWhyNotMade calls takes failures made t (unfinished part.0) part.1 fault

  -- some files were renamed, and then one wasn't
  pub record StopsNaming (s t : S) (parts : List FilePart) : Type 0 where
    pub before : List FilePart
    pub part : FilePart
    pub behind : List FilePart
    pub parts_are : parts ≡ before ++ part ∷ behind
    pub named : S
    pub are_named : AreNamed s named before
    pub why : Fails calls named (rename (unfinished part.0) part.0) t

  -- all were made, and not all renamed
  pub record IsNotNamed (s t : S) (parts : List FilePart) : Type 0 where
    pub made : S
    pub are_made : AreMade s made parts
    pub stops : StopsNaming made t parts

  abbrev pub SaysWhy : S → S → List FilePart → SaveFault → Type 0
  SaysWhy s t parts Memory = ⊥
  SaysWhy s t parts Rename = IsNotNamed s t parts
  SaysWhy s t parts fault = IsNotMade s t parts fault

-- a name is that of none of the files that are being made
abbrev pub IsNoNew : List FilePart → List ℕ → Type 0
IsNoNew [] name = Unit {0}
IsNoNew (part ∷ parts) name = (name ≢ unfinished part.0) × IsNoNew parts name

-- and of none that they become
abbrev pub IsNoPart : List FilePart → List ℕ → Type 0
IsNoPart [] name = Unit {0}
IsNoPart (part ∷ parts) name = (name ≢ part.0) × (name ≢ unfinished part.0) × IsNoPart parts name

abbrev pub HoldsAll : List FilePart → Files → Type 0
HoldsAll [] n = Unit {0}
HoldsAll (part ∷ parts) n = (get n part.0 ≡ Some part.1) × (get n (unfinished part.0) ≡ None) × HoldsAll parts n

abbrev pub HasAll : List FilePart → Files → Files → Type 0
HasAll parts m n = HoldsAll parts n × ((name : List ℕ) → IsNoPart parts name → get n name ≡ get m name)

abbrev pub KeepsNamed : List FilePart → Files → Files → Type 0
KeepsNamed parts m n = (name : List ℕ) → IsNoNew parts name → get n name ≡ get m name
