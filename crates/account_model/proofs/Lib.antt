pub mod RenamingLaws
mod MessageRows
mod Image
mod AnswerRows
mod BatchRows
mod NamedRows
mod ToldRows
pub mod BatchLaws
pub mod DeedLaws
pub mod RefusalFacts
pub mod WrittenScripts
pub mod MemberLaws
pub mod SettingBounds
pub mod GroupToolScripts
pub mod GroupmemsScripts
pub mod AgingToolScripts
pub mod ConversionScripts
pub mod ConversionLaws
pub mod GatheredLaws
pub mod ConversionDeeds
pub mod LockLaws
pub mod PasswdScripts
pub mod PasswdLaws
pub mod GivenFacts
pub mod UseraddScripts
pub mod UserdelScripts
pub mod UsermodScripts
pub mod ReportScripts
pub mod ToolLaws
pub mod ReportLaws
pub mod SeenLemmas
pub mod TableLemmas
mod Commands
mod UseraddRows
mod UsermodRows
mod UsermodRefusalRows
mod UserdelRows
mod GroupaddRows
mod GroupmodRows
mod GroupdelRows
mod GpasswdRows
mod GroupmemsRows
mod ChageRows
mod ChpasswdRows
mod ChgpasswdRows
mod ChfnRows
pub mod ChfnScripts
mod ChfnLaws
mod ConversionRows
mod PasswdRows
mod PwckRows
mod GrpckRows
mod GetsubidsRows
pub mod UsermodRangeScripts
pub mod FieldReads
pub mod ReadsLaws
pub mod WrittenLaws
pub mod ListLaws
pub mod ScriptLaws
pub mod EditLaws
pub mod SameLaws
pub mod EditLines
pub mod FineLines
pub mod FaultRows
pub mod FaultLaws
pub mod HeldLaws
pub mod OtherText
pub mod NoEdits
pub mod TouchedLaws
pub mod UntouchedLaws
pub mod TextTimes
pub mod UntouchedDeeds
pub mod LineTools
pub mod ComposedScripts
pub mod KeptIds
pub mod LawfulScripts
pub mod LawfulTools
pub mod LawfulParts
pub mod NamedLaws
pub mod NamedParts
pub mod UsermodSpares
pub mod NamedDeeds
pub mod UnnamedLines
pub mod FormatLaws
pub mod NamingLaws
pub mod TextLaws
pub mod SubidLaws
pub mod DateTextLaws
pub mod DatesLaws
pub mod AsksLaws
pub mod ReadIsSplit
pub mod SplitIsRead
pub mod ReadIsSpelled
pub mod SpelledIsRead
pub mod DateRows
pub mod WordRows
mod LineRows
mod BatchLineRows
mod SettingRows
pub mod Sets
pub mod IdsLaws
pub mod FreeRangeLaws
pub mod FieldFacts
pub mod CountedLaws
pub mod FreeIds
pub mod SettingsImage
pub mod PlanLaws
mod PlanRows
pub mod DiffLaws
