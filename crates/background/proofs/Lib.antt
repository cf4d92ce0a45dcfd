pub mod MisfitLists
pub mod HardSteps
pub mod RequestLaws
pub mod FrontTables
pub mod FrontLaws
pub mod RaisedRooms
pub mod MadeFronts
pub mod Deliveries
